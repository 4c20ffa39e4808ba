-- The lengths of attributes and messages, and what a run of writes makes of them.
use Prim.Native.Nat.{ℕ, ◌+◌, ◌*◌, ◌/◌, ◌≤◌, ◌<◌}
use mathlib.Core.Path.{◌≡◌, refl, sym, ap, ◌∙◌}
use mathlib.Core.List.{List, [], ◌∷◌, ◌++◌, append_assoc, append-nil}
use lib.ListN.{length, get_or, take, replicate, length-append, length-take, length-replicate}
use lib.Seq.{take-suc}
use lib.Dec.{lit≤}
use native.Mathlib.Omega.{arith}
use native.Mathlib.Numerals.{add-one}
use Rattle.wire.specs.Wire.{bytes_of}
use Rattle.wire.specs.Inner.{Wrote, WroteAt}
use Rattle.wire.proofs.Laws.{length_bytes}
use Rattle.address.specs.declared.Address.{Address}
use Rattle.address.specs.declared.Address.TheVariants.{V4, V6}
use Rattle.address.specs.declared.TransportAddress.{TransportAddress}
use Rattle.address.specs.declared.TransactionId.{TransactionId}
use Rattle.stun.specs.declared.kinds.Method.{Method}
use Rattle.messages.specs.Messages.{header_bytes, padding, attribute_bytes, message_bytes, address_attribute, types_bytes, allocate_success, refresh_success, bare_success, error_response, unknown_response, data_indication, channel_data}
use Rattle.messages.specs.Inner.{attribute_head, attribute_size, address_size, Sent}

-- ---- An attribute

pub length_attribute : (type : ℕ) (value : List ℕ) → length (attribute_bytes type value) ≡ attribute_size (length value)
unfolding attribute_bytes
length_attribute type value = simp (length-append, length_bytes, length-replicate) (omega arith)

pub length_address : (type : ℕ) (id : TransactionId) (address : Address) (port : ℕ)
    → length (address_attribute type id address port) ≡ address_size address
unfolding address_attribute bytes_of
length_address type id (V4 a) port = refl
length_address type id (V6 a b c d) port = refl

pub address_small : (address : Address) → address_size address ≤ 24
address_small (V4 a) = lit≤ tt
address_small (V6 a b c d) = lit≤ tt

-- padding does not pass a multiple of 4
pub attribute_small : (n m : ℕ) → n ≤ m * 4 → attribute_size n ≤ 4 + m * 4
attribute_small n m h = let q : (n + 3) / 4 ≤ m = omega arith in omega arith

-- head, value and zeros are the attribute
pub attribute_sent : (type : ℕ) (value : List ℕ) {len zeros n : ℕ} {d l : List ℕ}
    → len ≡ length value → zeros ≡ padding len → n ≡ attribute_size len
    → Wrote ((attribute_head type len ++ value) ++ replicate zeros 0) d l → Sent (attribute_bytes type value) d l n
unfolding attribute_head attribute_bytes bytes_of
attribute_sent type value e z s w =
    record { wrote = rw (← e, ← z) w; size = s ∙ ap attribute_size e ∙ sym (length_attribute type value) }

-- ---- Types

pub length_types : (types : List ℕ) → length (types_bytes types) ≡ length types * 2
unfolding types_bytes bytes_of
length_types [] = refl
length_types (t ∷ types) = omega (arith, length_types types)

pub length_first_types : (types : List ℕ) (count : ℕ) → count ≤ length types → length (types_bytes (take count types)) ≡ count * 2
length_first_types types count h = rw (length_types, length-take) (omega arith)

types_more : (types : List ℕ) (t : ℕ) → types_bytes types ++ bytes_of 2 t ≡ types_bytes (types ++ t ∷ [])
unfolding types_bytes
types_more [] t = sym (append-nil (bytes_of 2 t))
types_more (u ∷ types) t =
    append_assoc (bytes_of 2 u) (types_bytes types) (bytes_of 2 t) ∙ ap (λ (l : List ℕ). bytes_of 2 u ++ l) (types_more types t)

-- the first i types, and then the next
pub wrote_type : (types : List ℕ) (i : ℕ) {d l y : List ℕ} → i < length types → Wrote (types_bytes (take i types)) d l
    → WroteAt (i * 2) (bytes_of 2 (get_or types i 0)) l y → Wrote (types_bytes (take (i + 1) types)) d y
wrote_type types i h u v =
    rw (add-one, take-suc types i 0, ← types_more) (v _ _ (length_first_types types i (omega arith)) u)

-- ---- A message

pub length_message : (type : ℕ) (id : TransactionId) (body : List ℕ) → length (message_bytes type id body) ≡ 20 + length body
unfolding message_bytes bytes_of
length_message type id body = omega arith

-- header and attributes are the message
pub message_sent : (type : ℕ) (id : TransactionId) (body : List ℕ) {number len n : ℕ} {d l : List ℕ}
    → number ≡ type → len ≡ length body → n ≡ 20 + len
    → Wrote (header_bytes number len id ++ body) d l → Sent (message_bytes type id body) d l n
unfolding message_bytes
message_sent type id body t e s w =
    record { wrote = rw (← t, ← e) w; size = s ∙ ap (λ (k : ℕ). 20 + k) e ∙ sym (length_message type id body) }

-- ---- No message is longer than 1536 bytes, with 16 types or 1500 bytes of payload at most

module _ (id : TransactionId) where
  pub allocate_small : (relay port seconds : ℕ) (client : TransportAddress) → length (allocate_success id relay port seconds client) ≤ 1536
  unfolding allocate_success bytes_of
  allocate_small relay port seconds client =
      omega (arith, length_address 0x0020 id client.address client.port, address_small client.address)

  pub refresh_small : (seconds : ℕ) → length (refresh_success id seconds) ≤ 1536
  unfolding refresh_success bytes_of
  refresh_small seconds = lit≤ tt

  pub bare_small : (method : Method) → length (bare_success method id) ≤ 1536
  unfolding bare_success bytes_of
  bare_small method = lit≤ tt

  pub error_small : (method : Method) (code : ℕ) → length (error_response method id code) ≤ 1536
  unfolding error_response bytes_of
  error_small method code = lit≤ tt

  pub unknown_small : (method : Method) (types : List ℕ) → length types ≤ 16 → length (unknown_response method id types) ≤ 1536
  unfolding unknown_response bytes_of
  unknown_small method types h =
      let n = length (types_bytes types) in
      omega (arith, length_attribute 0x000a (types_bytes types), attribute_small n 8 (omega (arith, length_types types)))

  pub indication_small : (peer port : ℕ) (payload : List ℕ) → length payload ≤ 1500 → length (data_indication id peer port payload) ≤ 1536
  unfolding data_indication bytes_of
  indication_small peer port payload h =
      omega (arith, length_attribute 0x0013 payload, attribute_small (length payload) 375 (omega arith))

pub channel_data_small : (number : ℕ) (payload : List ℕ) → length payload ≤ 1500 → length (channel_data number payload) ≤ 1536
unfolding channel_data bytes_of
channel_data_small number payload h = omega arith
