-- The messages that carry data: what stands around the data, tested by numbers, says that writing the fields makes the bytes.
use Prim.Native.Nat.{ℕ, zero, suc, ◌+◌, ◌*◌, ◌/◌, ◌%◌, ◌^◌, ◌≤◌, ◌<◌}
use mathlib.Core.Path.{◌≡◌, refl, sym, ap, ap₂, ◌∙◌}
use mathlib.Core.List.{List, [], ◌∷◌, ◌++◌, append-nil}
use mathlib.Core.Bool.{Bool, true}
use lib.ListN.{length, get_or, take, drop, replicate, length-append, length-take, length-drop, length-replicate, take-append-drop, drop_of_length-le}
use lib.Seq.{drop-cons, drop-drop, take-add, drop_at, take_all}
use lib.Arith.{digits_lt, digits_div, digits_mod}
use lib.Bits.{bit_xor}
use lib.Dec.{eqb, lit<}
use native.Mathlib.Nat.{pow-succ', mod-eq_of_lt}
use native.Mathlib.Numerals.{add-one}
use native.Mathlib.Omega.{arith}
use borrow.Author.Tests.{eqb-true, eq-eqb}
use Rattle.wire.specs.Wire.{num, bytes_of, part_of}
use Rattle.wire.proofs.Laws.{num-written, bytes_mod, xor_twice, part_within}
use Rattle.choice.specs.Choice.{both}
use Rattle.choice.proofs.Laws.{both_parts, both_true}
use Rattle.address.specs.declared.Address.TheVariants.{V4}
use Rattle.stun.specs.Values.{transaction_id_of}
use Rattle.messages.specs.Messages.{padding, address_attribute, data_attribute, data_indication, channel_data}
use Rattle.client_reader.specs.Fields.{Bytes}
use Rattle.client_reader.specs.Inner.{indication_head, same_bytes}
use Rattle.client_reader.proofs.Same.{Tells, is_same}

-- ---- Numbers that were read are written back

-- a number in w bytes is below 256 ^ w
pub num_lt : (s : List ℕ) → Bytes s → (at w : ℕ) → num s at w < 256 ^ w
unfolding num
num_lt s h at zero = lit< tt
num_lt s h at (suc w) = rw pow-succ' (digits_lt (h at) (num_lt s h (at + 1) w))

bytes_num : (s : List ℕ) → Bytes s → (at w : ℕ) → at + w ≤ length s → bytes_of w (num s at w) ≡ take w (drop at s)
unfolding num bytes_of
bytes_num s h at zero k = refl
bytes_num s h at (suc w) k =
    let c = 256 ^ w in
    let b = get_or s at 0 in
    let m = num s (at + 1) w in
    let l : m < c = num_lt s h (at + 1) w in
    let q : (b * c + m) / c % 256 ≡ b = rw (digits_div b l) (mod-eq_of_lt (h at)) in
    let t : bytes_of w (b * c + m) ≡ bytes_of w m = sym (bytes_mod w (b * c + m)) ∙ ap (bytes_of w) (digits_mod b l) in
    rw (drop-cons s at 0 (omega arith), ← add-one at)
    (ap₂ (λ (x : ℕ) (r : List ℕ). x ∷ r) q (t ∙ bytes_num s h (at + 1) w (omega arith)))

abbrev sum : List ℕ → ℕ
sum [] = 0
sum (w ∷ ws) = w + sum ws

-- numbers of these widths, read one after the other from at on, and written
unfoldable rewritten : List ℕ → List ℕ → ℕ → List ℕ
rewritten [] s at = []
rewritten (w ∷ ws) s at = bytes_of w (num s at w) ++ rewritten ws s (at + w)

rewritten_is : (ws s : List ℕ) (at : ℕ) → Bytes s → at + sum ws ≤ length s → rewritten ws s at ≡ take (sum ws) (drop at s)
unfolding rewritten
rewritten_is [] s at h k = refl
rewritten_is (w ∷ ws) s at h k =
    rw (bytes_num s h at w (omega arith), rewritten_is ws s (at + w) h (omega arith), take-add w (sum ws) (drop at s), drop-drop w at s)

-- data that lies within the bytes
pub part_size : (s : List ℕ) (start len : ℕ) → start + len ≤ length s → length (part_of s start len) ≡ len
part_size s start len k = rw (part_within s start len k, length-take, length-drop) (omega arith)

-- the bytes are what stands before it, the data, and the rest
around : (s : List ℕ) (start len : ℕ) → start + len ≤ length s → take start s ++ (part_of s start len ++ drop (start + len) s) ≡ s
around s start len k = rw (part_within s start len k, ← drop-drop len start s, take-append-drop len (drop start s)) (take-append-drop start s)

-- ---- ChannelData

module _ (s : List ℕ) (h : Bytes s) (k : 4 + num s 2 2 ≤ length s) where
  channel_made : length s ≡ 4 + num s 2 2 → channel_data (num s 0 2) (part_of s 4 (num s 2 2)) ≡ s
  unfolding channel_data rewritten bytes_of
  channel_made e =
      let p = part_of s 4 (num s 2 2) in
      let q : rewritten (2 ∷ 2 ∷ []) s 0 ≡ take 4 s = rewritten_is (2 ∷ 2 ∷ []) s 0 h (omega arith) in
      let r : drop (4 + num s 2 2) s ≡ [] = drop_of_length-le s {i = 4 + num s 2 2} (omega arith) in
      rw (part_size s 4 (num s 2 2) k) (ap (λ (x : List ℕ). x ++ p) q ∙ rw (r, append-nil) at (around s 4 (num s 2 2) k))

  pub channel_same : (len : ℕ) → len ≡ num s 2 2 → eqb (length s) (4 + len) ≡ same_bytes (channel_data (num s 0 2) (part_of s 4 (num s 2 2))) s
  unfolding channel_data bytes_of
  channel_same len l = is_same _ _ _
      (λ t. channel_made (eqb-true _ _ t ∙ ap (λ (n : ℕ). 4 + n) l), λ e. eq-eqb (length s) (4 + len) (omega (arith, ap length e, part_size s 4 (num s 2 2) k)))

-- ---- Data indications

module _ (s : List ℕ) (h : Bytes s) (len pad : ℕ) (l : len ≡ num s 34 2) (p : pad ≡ padding len) (few : len ≤ 1500) (k : 36 + len ≤ length s) where
  abbrev payload : List ℕ
  payload = part_of s 36 len

  abbrev peer : ℕ
  peer = bit_xor (num s 28 4) 0x2112_a442

  abbrev port : ℕ
  port = bit_xor (num s 26 2) 0x2112

  abbrev made : List ℕ
  made = data_indication (transaction_id_of s) peer port payload

  abbrev zeros : List ℕ
  zeros = replicate (padding (length payload)) 0

  abbrev attributes : List ℕ
  attributes = address_attribute 0x0012 (transaction_id_of s) (V4 peer) port ++ data_attribute payload

  size : length payload ≡ len
  size = part_size s 36 len k

  padded : replicate pad 0 ≡ zeros
  padded = ap (λ (n : ℕ). replicate n 0) (p ∙ ap padding (sym size))

  attributes_size : length attributes ≡ 16 + len + pad
  unfolding address_attribute data_attribute bytes_of
  attributes_size = omega (arith, size, p, length-append payload zeros, length-replicate {A = ℕ} (padding (length payload)) 0)

  indication_made : indication_head s ≡ true → num s 2 2 ≡ 16 + len + pad → replicate pad 0 ≡ drop (36 + len) s → made ≡ s
  unfolding indication_head data_indication transaction_id_of rewritten bytes_of
  indication_made t e z =
      let a = both_parts _ _ t in
      let kinds = both_parts _ _ (both_parts _ _ a.1).0 in
      let address = both_parts _ _ (both_parts _ _ a.1).1 in
      let family = both_parts _ _ address.1 in
      let m : num s 2 2 ≡ length attributes = e ∙ sym attributes_size in
      let n : num s 34 2 ≡ length payload = sym l ∙ sym size in
      let head = rewritten_is (2 ∷ 2 ∷ 4 ∷ 4 ∷ 4 ∷ 4 ∷ 2 ∷ 2 ∷ 2 ∷ 2 ∷ 4 ∷ 2 ∷ 2 ∷ []) s 0 h (omega arith) in
      let told = rw (eqb-true (num s 0 2) 0x0017 kinds.0, m, eqb-true (num s 4 4) 0x2112_a442 a.0, eqb-true (num s 20 2) 0x0012 address.0, eqb-true (num s 22 2) 8 family.0, eqb-true (num s 24 2) 1 family.1, eqb-true (num s 32 2) 0x0013 kinds.1, n) at head in
      rw (xor_twice (num s 26 2) 0x2112, xor_twice (num s 28 4) 0x2112_a442)
      (ap (λ (x : List ℕ). x ++ (payload ++ zeros)) told ∙ rw (sym padded ∙ z) (around s 36 len k))

  module _ (e : made ≡ s) where
    number : (at w : ℕ) → num s at w ≡ num made at w
    number at w = ap (λ (x : List ℕ). num x at w) (sym e)

    head_back : indication_head s ≡ true
    unfolding indication_head data_indication num bytes_of
    head_back =
        both_true _ _ (eq-eqb (num s 4 4) 0x2112_a442 (number 4 4))
        (both_true _ _ (both_true _ _ (eq-eqb (num s 0 2) 0x0017 (number 0 2)) (eq-eqb (num s 32 2) 0x0013 (number 32 2)))
        (both_true _ _ (eq-eqb (num s 20 2) 0x0012 (number 20 2)) (both_true _ _ (eq-eqb (num s 22 2) 8 (number 22 2)) (eq-eqb (num s 24 2) 1 (number 24 2)))))

    size_back : num s 2 2 ≡ 16 + len + pad
    unfolding data_indication num bytes_of
    size_back = number 2 2 ∙ num-written 2 (length attributes) [] (omega (arith, attributes_size, p)) ∙ attributes_size

    zeros_back : replicate pad 0 ≡ drop (36 + len) s
    unfolding data_indication bytes_of
    zeros_back = padded ∙ sym (drop_at (take 36 made ++ payload) zeros (36 + len) (omega (arith, size))) ∙ ap (drop (36 + len)) e

  pub indication_same : (t : Bool) → Tells t (replicate pad 0) (drop (36 + len) s)
      → both (indication_head s) (both (eqb (num s 2 2) (16 + len + pad)) t) ≡ same_bytes made s
  indication_same t z = is_same _ _ _ (
    λ b. let a = both_parts _ _ b in let r = both_parts _ _ a.1 in indication_made a.0 (eqb-true _ _ r.0) (z.0 r.1),
    λ e. both_true _ _ (head_back e) (both_true _ _ (eq-eqb _ _ (size_back e)) (z.1 (zeros_back e))),
  )

-- the padding is compared with the front of three zeros
abbrev three : List ℕ
three = 0 ∷ 0 ∷ 0 ∷ []

zeros_front : (pad : ℕ) → pad ≤ 3 → take pad three ≡ replicate pad 0
zeros_front zero h = refl
zeros_front (suc zero) h = refl
zeros_front (suc (suc zero)) h = refl
zeros_front (suc (suc (suc zero))) h = refl
zeros_front (suc (suc (suc (suc pad)))) h = let y : ⊥ = omega arith in absurd y

pub zeros_told : (t : Bool) (pad n : ℕ) (r : List ℕ) → pad ≤ 3 → length r ≤ n
    → Tells t (take pad three) (take n r) → Tells t (replicate pad 0) r
zeros_told t pad n r h k told = rw (zeros_front pad h, take_all n r k) at told
