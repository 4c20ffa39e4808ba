-- The fields of each message come back from its bytes.
use Prim.Native.Nat.{ℕ, ◌+◌, ◌*◌, ◌/◌, ◌%◌, ◌^◌, ◌≤◌, ◌<◌}
use mathlib.Core.Path.{◌≡◌, refl, ap, ◌∙◌}
use mathlib.Core.List.{List, [], ◌++◌}
use mathlib.Core.Bool.{true}
use lib.ListN.{length, take, replicate, length-append, take-append-drop}
use lib.Dec.{lit<, lit≤}
use lib.Bits.{bit_xor}
use native.Mathlib.Omega.{arith}
use borrow.Author.Tests.{le-leb, ne_eqb, lt-leb}
use Rattle.wire.specs.Wire.{num, bytes_of}
use Rattle.wire.proofs.Laws.{num-written, xor_written}
use Rattle.choice.specs.Choice.{both}
use Rattle.choice.proofs.Laws.{both_true}
use Rattle.address.specs.declared.Address.{Address}
use Rattle.address.specs.declared.Address.TheVariants.{V4, V6}
use Rattle.address.specs.declared.TransactionId.{TransactionId}
use Rattle.stun.specs.declared.kinds.Method.{Method}
use Rattle.stun.specs.declared.kinds.Method.TheVariants.{Allocate, Refresh, CreatePermission, ChannelBind}
use Rattle.stun.specs.declared.kinds.MessageKind.{MessageKind}
use Rattle.stun.specs.declared.kinds.MessageKind.TheVariants as Kind
use Rattle.stun.specs.Kinds.{message_kind_of, error_type}
use Rattle.stun.specs.Values.{transaction_id_of, address_at, v4_at, v6_at}
use Rattle.messages.specs.Messages.{message_bytes, padding, address_attribute, data_attribute, error_code_attribute, unknown_attribute, types_bytes, allocate_success, refresh_success, bare_success, error_response, unknown_response, data_indication, channel_data}
use Rattle.messages.proofs.Laws.{length_first_types}
use Rattle.client_reader.proofs.Types.{types_append, types_back, below_all}
use Rattle.std.specs.Prelude.{Some}
use Rattle.client_reader.specs.declared.Message.TheVariants.{AllocateSuccess, RefreshSuccess, BareSuccess, Error, UnknownAttributes, DataIndication, ChannelData}
use Rattle.client_reader.specs.Fields.{IdFits, AddressFits, IsBare, TypesInRange}
use Rattle.client_reader.specs.Inner.{fields_of, allocate_fields, refresh_fields, bare_fields, code_of, types_from, types_of, count_fits, unknown_fields, plain_error_fields, error_fields, indication_fields, channel_fields, stun_fields, data_fits}

-- a word that is XORed with another word of the message
xor_back : (n key : ℕ) → n < 2 ^ 32 → key < 2 ^ 32 → bit_xor (num (bytes_of 4 (bit_xor n key)) 0 4) (num (bytes_of 4 key) 0 4) ≡ n
unfolding num bytes_of
xor_back n key h k =
    ap (bit_xor (num (bytes_of 4 (bit_xor n key)) 0 4)) (num-written 4 key [] k) ∙ xor_written 4 n key [] h k

module _ (id : TransactionId) (h : IdFits id) where
  id_back : ◌≡◌ {A = TransactionId} (record { high = num (bytes_of 4 id.high) 0 4; middle = num (bytes_of 4 id.middle) 0 4; low = num (bytes_of 4 id.low) 0 4 }) id
  unfolding num bytes_of
  id_back = λ i. record {
    high = num-written 4 id.high [] h.0 i;
    middle = num-written 4 id.middle [] h.1 i;
    low = num-written 4 id.low [] h.2 i;
  }

  pub id_of : (type : ℕ) (body : List ℕ) → transaction_id_of (message_bytes type id body) ≡ id
  unfolding transaction_id_of message_bytes num bytes_of
  id_of type body = id_back

  module _ (relay port seconds : ℕ) (hr : relay < 2 ^ 32) (hp : port < 2 ^ 16) (hs : seconds < 2 ^ 32) where
    pub allocate_back : (address : Address) (p : ℕ) → AddressFits address → p < 2 ^ 16
        → fields_of (allocate_success id relay port seconds (record { address = address; port = p }))
        ≡ Some (AllocateSuccess id relay port seconds (record { address = address; port = p }))
    unfolding fields_of allocate_fields allocate_success transaction_id_of address_at v4_at v6_at both num bytes_of
    allocate_back (V4 a) p ha hq = λ i. Some (AllocateSuccess
        (id_back i)
        (xor_written 4 relay 0x2112_a442 [] hr (lit< tt) i)
        (xor_written 2 port 0x2112 [] hp (lit< tt) i)
        (num-written 4 seconds [] hs i)
        (record { address = V4 (xor_written 4 a 0x2112_a442 [] ha (lit< tt) i); port = xor_written 2 p 0x2112 [] hq (lit< tt) i }))
    allocate_back (V6 a b c d) p ha hq = λ i. Some (AllocateSuccess
        (id_back i)
        (xor_written 4 relay 0x2112_a442 [] hr (lit< tt) i)
        (xor_written 2 port 0x2112 [] hp (lit< tt) i)
        (num-written 4 seconds [] hs i)
        (record {
          address = V6 (xor_written 4 a 0x2112_a442 [] ha.0 (lit< tt) i)
              (xor_back b id.high ha.1 h.0 i) (xor_back c id.middle ha.2 h.1 i) (xor_back d id.low ha.3 h.2 i);
          port = xor_written 2 p 0x2112 [] hq (lit< tt) i;
        }))

  pub refresh_back : (seconds : ℕ) → seconds < 2 ^ 32 → fields_of (refresh_success id seconds) ≡ Some (RefreshSuccess id seconds)
  unfolding fields_of refresh_fields refresh_success transaction_id_of both num bytes_of
  refresh_back seconds hs = λ i. Some (RefreshSuccess (id_back i) (num-written 4 seconds [] hs i))

  pub bare_back : (method : Method) → IsBare method → fields_of (bare_success method id) ≡ Some (BareSuccess method id)
  unfolding fields_of bare_fields bare_success transaction_id_of both num bytes_of
  bare_back Allocate b = absurd b
  bare_back Refresh b = absurd b
  bare_back CreatePermission b = λ i. Some (BareSuccess CreatePermission (id_back i))
  bare_back ChannelBind b = λ i. Some (BareSuccess ChannelBind (id_back i))

-- ---- A message by its kind

-- a STUN message is read by the kind of its type
by_kind : (s : List ℕ) {type : ℕ} {kind : MessageKind} → num s 0 2 ≡ type → type < 0x4000 → 20 ≤ length s → message_kind_of type ≡ kind
    → fields_of s ≡ stun_fields kind s
unfolding fields_of both
by_kind s {type} e k l m = rw (le-leb 4 (length s) (omega arith), e, lt-leb 0x4000 type k, le-leb 20 (length s) l, m)

kind_error : (method : Method) → message_kind_of (error_type method) ≡ Kind.Error method
kind_error Allocate = refl
kind_error Refresh = refl
kind_error CreatePermission = refl
kind_error ChannelBind = refl

error_low : (method : Method) → error_type method < 0x4000
error_low Allocate = lit< tt
error_low Refresh = lit< tt
error_low CreatePermission = lit< tt
error_low ChannelBind = lit< tt

by_error : (method : Method) (id : TransactionId) (body : List ℕ)
    → fields_of (message_bytes (error_type method) id body) ≡ error_fields method (message_bytes (error_type method) id body)
unfolding message_bytes num bytes_of
by_error method id body =
    by_kind (message_bytes (error_type method) id body) (num-written 2 (error_type method) [] (omega (arith, error_low method))) (error_low method) (omega arith) (kind_error method)

-- ---- Errors

-- hundreds and rest
code_back : (code : ℕ) → code ≤ 699 → num (bytes_of 1 (code / 100)) 0 1 * 100 + num (bytes_of 1 (code % 100)) 0 1 ≡ code
unfolding num bytes_of
code_back code k = rw (num-written 1 (code / 100) [] (omega arith), num-written 1 (code % 100) [] (omega arith)) (omega arith)

plain_error : (s : List ℕ) (method : Method) (code : ℕ) {id : TransactionId} → 28 ≤ length s → code_of s ≡ code → transaction_id_of s ≡ id
    → 300 ≤ code → code ≤ 699 → (code ≡ 420 → ⊥) → error_fields method s ≡ Some (Error method id code)
unfolding error_fields plain_error_fields both
plain_error s method code l e t low high other =
    rw (le-leb 28 (length s) l, e, ne_eqb code 420 other, le-leb 300 code low, le-leb code 699 high, t)

module _ (id : TransactionId) (h : IdFits id) (method : Method) where
  pub error_back : (code : ℕ) → 300 ≤ code → code ≤ 699 → (code ≡ 420 → ⊥)
      → fields_of (error_response method id code) ≡ Some (Error method id code)
  unfolding error_response code_of num bytes_of
  error_back code low high other =
      by_error method id (error_code_attribute code)
      ∙ plain_error (error_response method id code) method code (lit≤ tt) (code_back code high) (id_of id h (error_type method) (error_code_attribute code)) low high other

-- ---- The error 420

unknown_error : (s : List ℕ) (method : Method) (count : ℕ) (types : List ℕ) {id : TransactionId} → 32 + count * 2 ≤ length s → code_of s ≡ 420
    → num s 30 2 / 2 ≡ count → transaction_id_of s ≡ id → types_of s count ≡ types → TypesInRange count types
    → error_fields method s ≡ Some (UnknownAttributes method id types count)
unfolding error_fields unknown_fields count_fits both
unknown_error s method count types l e n t y r =
    rw (le-leb 28 (length s) (omega arith), e, le-leb 32 (length s) (omega arith), n, le-leb 1 count r.some, le-leb count 16 r.few, le-leb (32 + count * 2) (length s) l, y, below_all 0x8000 types r.below, t)

module _ (id : TransactionId) (h : IdFits id) (method : Method) (count : ℕ) (types : List ℕ) (r : TypesInRange count types) where
  abbrev front : List ℕ
  front = take count types

  abbrev zeros : List ℕ
  zeros = replicate (padding (length (types_bytes front))) 0

  count_back : num (unknown_response method id front) 30 2 / 2 ≡ count
  unfolding unknown_response num bytes_of
  count_back =
      let l = length_first_types types count (omega (arith, r.size, r.few)) in
      rw (num-written 2 (length (types_bytes front)) [] (omega (arith, l, r.few)), l) (omega arith)

  array_back : types_of (unknown_response method id front) count ≡ types
  unfolding types_of unknown_response bytes_of
  array_back =
      let e : types_from (unknown_response method id front) 32 count ≡ front =
      types_append (take 32 (unknown_response method id front)) (types_bytes front ++ zeros) 0 count
      ∙ types_back types count zeros (omega (arith, r.size, r.few)) r.below in
      rw (e, ← r.rest) (take-append-drop count types)

  pub unknown_back : fields_of (unknown_response method id (take count types)) ≡ Some (UnknownAttributes method id types count)
  unfolding unknown_response code_of num bytes_of
  unknown_back =
      by_error method id (error_code_attribute 420 ++ unknown_attribute front)
      ∙ unknown_error (unknown_response method id front) method count types
      (omega (arith, length_first_types types count (omega (arith, r.size, r.few)), length-append (types_bytes front) zeros))
      refl count_back (id_of id h (error_type method) (error_code_attribute 420 ++ unknown_attribute front)) array_back r

-- ---- Data

data_fits_lem : (start len : ℕ) (s : List ℕ) → len ≤ 1500 → start + len ≤ length s → data_fits start len s ≡ true
unfolding data_fits
data_fits_lem start len s h k = both_true _ _ (le-leb len 1500 h) (le-leb (start + len) (length s) k)

pub channel_back : (number : ℕ) (payload : List ℕ) → 0x4000 ≤ number → number ≤ 0x4fff → length payload ≤ 1500
    → fields_of (channel_data number payload) ≡ Some (ChannelData number 4 (length payload))
unfolding fields_of channel_fields channel_data both num bytes_of
channel_back number payload low high few =
    let s = channel_data number payload in
    let n : num s 0 2 ≡ number = num-written 2 number [] (omega arith) in
    let l : num s 2 2 ≡ length payload = num-written 2 (length payload) [] (omega arith) in
    rw (le-leb 4 (length s) (omega arith), n, le-leb 0x4000 number low, le-leb number 0x4fff high, l, data_fits_lem 4 (length payload) s few (omega arith))

plain_indication : (s : List ℕ) {id : TransactionId} {peer port len : ℕ} → transaction_id_of s ≡ id → bit_xor (num s 28 4) 0x2112_a442 ≡ peer
    → bit_xor (num s 26 2) 0x2112 ≡ port → num s 34 2 ≡ len → len ≤ 1500 → 36 + len ≤ length s
    → indication_fields s ≡ Some (DataIndication id peer port 36 len)
unfolding indication_fields
plain_indication s {len = len} t a p n few l = rw (le-leb 36 (length s) (omega arith), n, data_fits_lem 36 len s few l, t, a, p)

module _ (id : TransactionId) (h : IdFits id) (peer port : ℕ) (payload : List ℕ) where
  pub indication_back : peer < 2 ^ 32 → port < 2 ^ 16 → length payload ≤ 1500
      → fields_of (data_indication id peer port payload) ≡ Some (DataIndication id peer port 36 (length payload))
  unfolding data_indication num bytes_of
  indication_back ha hp few =
      let s = data_indication id peer port payload in
      let l : 36 + length payload ≤ length s = omega (arith, length-append payload (replicate (padding (length payload)) 0)) in
      by_kind s refl (lit< tt) (omega arith) refl
      ∙ plain_indication s (id_of id h 0x0017 (address_attribute 0x0012 id (V4 peer) port ++ data_attribute payload)) (xor_written 4 peer 0x2112_a442 [] ha (lit< tt)) (xor_written 2 port 0x2112 [] hp (lit< tt))
      (num-written 2 (length payload) [] (omega arith)) few l
