-- The reader is exact: it gives the fields of a message exactly where writing those fields makes the bytes.
use Prim.Native.Nat.{ℕ, ◌+◌, ◌^◌, ◌≤◌, ◌<◌}
use mathlib.Core.Path.{◌≡◌, refl, sym, ap, ap₂, subst, ◌∙◌}
use mathlib.Core.List.{List}
use mathlib.Core.Bool.{Bool, true, false}
use native.Mathlib.Omega.{arith}
use lib.ListN.{length, replicate, length-append}
use lib.Seq.{take_at, take-length}
use Rattle.wire.specs.Wire.{bytes_of, part_of}
use Rattle.wire.proofs.Laws.{part_within}
use Rattle.address.specs.declared.TransportAddress.{TransportAddress}
use Rattle.address.specs.declared.TransactionId.{TransactionId}
use Rattle.stun.specs.declared.kinds.Method.{Method}
use Rattle.messages.specs.Messages.{padding, allocate_success, refresh_success, bare_success, data_indication, channel_data}
use Rattle.client_reader.specs.declared.Message.{Message}
use Rattle.client_reader.specs.declared.Message.TheVariants.{AllocateSuccess, RefreshSuccess, BareSuccess, Error, UnknownAttributes, DataIndication, ChannelData}
use Rattle.std.specs.Prelude.{Option, Some, None, IfSome}
use Rattle.std.proofs.lemmas.Option.{same_Some, none-some}
use Rattle.client_reader.specs.Fields.{written, IdFits, AddressFits, IsBare, InRange, Bytes, Exact}
use Rattle.client_reader.specs.Inner.{when, fields_of, same_bytes, checked}
use Rattle.client_reader.specs.Reader.{message_in}
use Rattle.client_reader.proofs.Same.{bytes_same, same_bytes_lem}
use Rattle.client_reader.proofs.Around.{part_size}
use Rattle.client_reader.proofs.Round.{allocate_back, refresh_back, bare_back, error_back, unknown_back, indication_back, channel_back}
use Rattle.client_reader.proofs.Ranges.{in_range}

-- ---- What is read was written

-- fields in range that make the bytes, or none
sound : (s : List ℕ) → Bytes s → IfSome (message_in s) (λ m. InRange m s × (written m s ≡ s))
unfolding message_in checked
sound s h = go (fields_of s) (in_range s h)
  where
    told : (m : Message) → InRange m s → (b : Bool) → same_bytes (written m s) s ≡ b → IfSome (when b (Some m)) (λ m. InRange m s × (written m s ≡ s))
    told m r true e = (r, bytes_same (written m s) s e)
    told m r false e = tt

    go : (o : Option Message) → IfSome o (λ m. InRange m s) → IfSome (checked o s) (λ m. InRange m s × (written m s ≡ s))
    go None r = tt
    go (Some m) r = told m r (same_bytes (written m s) s) refl

-- ---- What was written is read

read_by : (s : List ℕ) {m : Message} → fields_of s ≡ Some m → written m s ≡ s → message_in s ≡ Some m
unfolding message_in checked
read_by s e w = rw (e, w, same_bytes_lem s)

-- the fields of a message come back from its bytes
back : (s : List ℕ) (m : Message) → InRange m s → fields_of (written m s) ≡ Some m
back s (AllocateSuccess id relay port seconds client) r = allocate_back id r.0 relay port seconds r.1 r.2 r.3 client.address client.port r.4 r.5
back s (RefreshSuccess id seconds) r = refresh_back id r.0 seconds r.1
back s (BareSuccess method id) r = bare_back id r.0 method r.1
back s (Error method id code) r = error_back id r.0 method code r.1 r.2 r.3
back s (UnknownAttributes method id types count) r = unknown_back id r.0 method count types r.1
back s (DataIndication id peer port start len) r =
    let d = r.3 in
    let n = part_size s start len d.within in
    indication_back id r.0 peer port (part_of s start len) r.1 r.2 (rw n d.few)
    ∙ ap₂ (λ (from size : ℕ). Some (DataIndication id peer port from size)) (sym d.from) n
back s (ChannelData number start len) r =
    let d = r.2 in
    let n = part_size s start len d.within in
    channel_back number (part_of s start len) r.0 r.1 (rw n d.few)
    ∙ ap₂ (λ (from size : ℕ). Some (ChannelData number from size)) (sym d.from) n

-- fields in range are read back from the bytes that they make
pub written_read : (s : List ℕ) (m : Message) → InRange m s → written m s ≡ s → message_in s ≡ Some m
written_read s m r w = read_by s (ap fields_of (sym w) ∙ back s m r) w

-- ---- The theorems

-- no bytes are made by two messages
pub unique : (s : List ℕ) (m n : Message) → InRange m s → InRange n s → written m s ≡ s → written n s ≡ s → m ≡ n
unique s m n p q v w = same_Some m n (sym (written_read s m p v) ∙ written_read s n q w)

-- a message in range is what its own bytes are read as
pub message_exact : (s : List ℕ) (m : Message) → InRange m s → written m s ≡ s → Exact s (Some m)
message_exact s m r w = record {
  exactly = λ n. (
    λ e. subst (λ (x : Message). InRange x s × (written x s ≡ s)) (same_Some m n e) (r, w),
    λ p. ap Some (unique s m n r p.0 w p.1),
  );
  none = λ never. absurd (never m r w);
}

-- and what no message makes as none
nothing_exact : (s : List ℕ) → ((m : Message) → InRange m s → written m s ≡ s → ⊥) → Exact s None
nothing_exact s never = record {
  exactly = λ m. (λ e. absurd (none-some m e), λ p. absurd (never m p.0 p.1));
  none = λ n. refl;
}

-- the reader's sentence, of any bytes
pub exact : (s : List ℕ) → Bytes s → Exact s (message_in s)
exact s h = go (message_in s) refl (sound s h)
  where
    go : (o : Option Message) → message_in s ≡ o → IfSome o (λ m. InRange m s × (written m s ≡ s)) → Exact s (message_in s)
    go None e p = rw e (nothing_exact s (λ m r w. none-some m (sym e ∙ written_read s m r w)))
    go (Some m) e p = rw e (message_exact s m p.0 p.1)

-- what a function gives that reads so
pub exact_as : (s : List ℕ) {r : Option Message} → Bytes s → r ≡ message_in s → Exact s r
exact_as s h e = rw e (exact s h)

-- bytes are read in one way
pub one_reading : (s : List ℕ) (q r : Option Message) → Exact s q → Exact s r → q ≡ r
one_reading s None r x y = sym (y.none (λ m p w. none-some m ((x.exactly m).1 (p, w))))
one_reading s (Some m) r x y = sym ((y.exactly m).1 ((x.exactly m).0 refl))

-- ---- The data is shown byte for byte

pub indication_within : (id : TransactionId) (peer port : ℕ) (payload : List ℕ) → 36 + length payload ≤ length (data_indication id peer port payload)
unfolding data_indication bytes_of
indication_within id peer port payload = omega (arith, length-append payload (replicate (padding (length payload)) 0))

pub indication_data : (id : TransactionId) (peer port : ℕ) (payload : List ℕ) → part_of (data_indication id peer port payload) 36 (length payload) ≡ payload
unfolding data_indication bytes_of
indication_data id peer port payload =
    part_within (data_indication id peer port payload) 36 (length payload) (indication_within id peer port payload)
    ∙ take_at payload (replicate (padding (length payload)) 0) (length payload) refl

pub channel_within : (number : ℕ) (payload : List ℕ) → 4 + length payload ≤ length (channel_data number payload)
unfolding channel_data bytes_of
channel_within number payload = omega arith

pub channel_data_lem : (number : ℕ) (payload : List ℕ) → part_of (channel_data number payload) 4 (length payload) ≡ payload
unfolding channel_data bytes_of
channel_data_lem number payload = part_within (channel_data number payload) 4 (length payload) (channel_within number payload) ∙ take-length payload

-- ---- What a success is read as

module _ (id : TransactionId) (h : IdFits id) where
  pub read_allocate : (relay port seconds : ℕ) (client : TransportAddress) → relay < 2 ^ 32 → port < 2 ^ 16 → seconds < 2 ^ 32
      → AddressFits client.address → client.port < 2 ^ 16
      → message_in (allocate_success id relay port seconds client) ≡ Some (AllocateSuccess id relay port seconds client)
  read_allocate relay port seconds client hr hp hs ha hq =
      read_by (allocate_success id relay port seconds client) (allocate_back id h relay port seconds hr hp hs client.address client.port ha hq) refl

  pub read_refresh : (seconds : ℕ) → seconds < 2 ^ 32 → message_in (refresh_success id seconds) ≡ Some (RefreshSuccess id seconds)
  read_refresh seconds hs = read_by (refresh_success id seconds) (refresh_back id h seconds hs) refl

  pub read_bare : (method : Method) → IsBare method → message_in (bare_success method id) ≡ Some (BareSuccess method id)
  read_bare method b = read_by (bare_success method id) (bare_back id h method b) refl
