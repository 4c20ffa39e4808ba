-- The bits of a word, one by one.
use Prim.Native.Nat.{ℕ, zero, suc, ◌+◌, ◌-◌, ◌*◌, ◌/◌, ◌%◌, ◌^◌, ◌≤◌, ◌<◌, max}
use mathlib.Core.Path.{◌≡◌, refl, sym, ◌∙◌, ap, ap₂}
use mathlib.Core.Bool.{Bool, true, false}
use mathlib.Core.List.{List, [], ◌∷◌, ◌++◌}
use native.Mathlib.Nat.{not-suc-le-zero, pow-suc, mul_comm, div-div-eq-div-mul, max-zero, max-eq_right, zero-add, suc-add}
use native.Mathlib.Omega.{arith}
use lib.Bits.{bit_or, or_step, or_zero_r}
use lib.Dec.{eqb}
use lib.ListN.{length, get_or, set, length-append, get_or-append}
use lib.Seq.{get_or-append-add, set-append_left}
use Rattle.slot.specs.declared.ports.Ports.{Ports}
use Rattle.slot.specs.Inner.{bits_of, held_in}

length_bits : (n word : ℕ) → length (bits_of n word) ≡ n
unfolding bits_of
length_bits zero word = refl
length_bits (suc n) word = ap suc (length_bits n (word / 2))

pub bit_is : (n word k : ℕ) → k < n → get_or (bits_of n word) k false ≡ eqb (word / 2 ^ k % 2) 1
unfolding bits_of
bit_is zero word k h = absurd (not-suc-le-zero h)
bit_is (suc n) word zero h = let z : word % 2 ≡ word / 1 % 2 = omega arith in ap (λ (x : ℕ). eqb x 1) z
bit_is (suc n) word (suc k) h =
    bit_is n (word / 2) k (omega arith)
    ∙ ap (λ (x : ℕ). eqb (x % 2) 1) (div-div-eq-div-mul word 2 (2 ^ k) ∙ ap (λ (x : ℕ). word / x) (mul_comm 2 (2 ^ k) ∙ sym (pow-suc 2 k)))

or_one : (word : ℕ) → bit_or word 1 ≡ word / 2 * 2 + 1
or_one word = or_step word 1 ∙ ap₂ (λ (x c : ℕ). x * 2 + c) (or_zero_r (word / 2)) (max-eq_right (let z : word % 2 ≤ 1 = omega arith in z))

or_more : (word k : ℕ) → bit_or word (2 ^ suc k) ≡ bit_or (word / 2) (2 ^ k) * 2 + word % 2
or_more word k =
    let p = pow-suc 2 k in
    let half : 2 ^ suc k / 2 ≡ 2 ^ k = omega arith in
    let even : 2 ^ suc k % 2 ≡ 0 = omega arith in
    or_step word (2 ^ suc k) ∙ ap₂ (λ (x c : ℕ). bit_or (word / 2) x * 2 + max (word % 2) c) half even
    ∙ ap (λ (c : ℕ). bit_or (word / 2) (2 ^ k) * 2 + c) (max-zero (word % 2))

-- the bits of a number by its lowest
bits_from : (n x y c : ℕ) → x ≡ y * 2 + c → c < 2 → bits_of (suc n) x ≡ eqb c 1 ∷ bits_of n y
unfolding bits_of
bits_from n x y c e h =
    let low : x % 2 ≡ c = omega arith in
    let rest : x / 2 ≡ y = omega arith in
    rw (low, rest)

pub bit_set : (n word k : ℕ) → k < n → bits_of n (bit_or word (2 ^ k)) ≡ set (bits_of n word) k true
unfolding bits_of
bit_set zero word k h = absurd (not-suc-le-zero h)
bit_set (suc n) word zero h = bits_from n _ (word / 2) 1 (or_one word) (omega arith)
bit_set (suc n) word (suc k) h =
    bits_from n _ (bit_or (word / 2) (2 ^ k)) (word % 2) (or_more word k) (omega arith) ∙ ap (λ (l : List Bool). eqb (word % 2) 1 ∷ l) (bit_set n (word / 2) k (omega arith))

-- ---- the ports: the bits of two words
module _ {A : Type 0} where
  set-append-add : (xs ys : List A) (n : ℕ) (a : A) → set (xs ++ ys) (length xs + n) a ≡ xs ++ set ys n a
  set-append-add [] ys n a = ap (λ (k : ℕ). set ys k a) (zero-add n)
  set-append-add (x ∷ xs) ys n a =
      ap (λ (k : ℕ). set (x ∷ (xs ++ ys)) k a) (suc-add (length xs) n) ∙ ap (λ (r : List A). x ∷ r) (set-append-add xs ys n a)

pub length_held : (ports : Ports) → length (held_in ports) ≡ 128
unfolding held_in
length_held ports = rw (length-append (bits_of 64 ports.low) (bits_of 64 ports.high), length_bits 64 ports.low, length_bits 64 ports.high)

module _ (ports : Ports) (k : ℕ) where
  abbrev lows : List Bool
  lows = bits_of 64 ports.low

  abbrev highs : List Bool
  highs = bits_of 64 ports.high

  pub low_is : k < 64 → get_or (held_in ports) k false ≡ get_or lows k false
  unfolding held_in
  low_is h = get_or-append lows highs false k (rw (length_bits 64 ports.low) h)

  pub low_set : (word : ℕ) → k < 64 → bits_of 64 word ≡ set lows k true → held_in (record { low = word; high = ports.high }) ≡ set (held_in ports) k true
  unfolding held_in
  low_set word h e = ap (λ (l : List Bool). l ++ highs) e ∙ sym (set-append_left lows highs k true (rw (length_bits 64 ports.low) h))

  past_low : 64 ≤ k → k ≡ length lows + (k - 64)
  past_low h = rw (length_bits 64 ports.low) (let z : k ≡ 64 + (k - 64) = omega arith in z)

  pub high_is : 64 ≤ k → get_or (held_in ports) k false ≡ get_or highs (k - 64) false
  unfolding held_in
  high_is h = ap (λ (j : ℕ). get_or (held_in ports) j false) (past_low h) ∙ get_or-append-add lows highs (k - 64) false

  pub high_set : (word : ℕ) → 64 ≤ k → bits_of 64 word ≡ set highs (k - 64) true → held_in (record { low = ports.low; high = word }) ≡ set (held_in ports) k true
  unfolding held_in
  high_set word h e = ap (λ (l : List Bool). lows ++ l) e ∙ sym (ap (λ (j : ℕ). set (held_in ports) j true) (past_low h) ∙ set-append-add lows highs (k - 64) true)
