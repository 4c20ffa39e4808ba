-- The laws of numbers and bytes as text: each comes back from its text, and no other text is read.
use Prim.Native.Nat.{ℕ, zero, suc, ◌+◌, ◌-◌, ◌*◌, ◌/◌, ◌%◌, ◌^◌, ◌≤◌, ◌<◌, suc-le-suc}
use mathlib.Core.Path.{◌≡◌, refl, sym, ap, ap₂, ◌∙◌, subst}
use mathlib.Core.Bool.{Bool, true, false, not, cond, false≢true}
use mathlib.Core.List.{List, [], ◌∷◌, ◌++◌, append_assoc, append-nil}
use native.Mathlib.Omega.{arith}
use native.Mathlib.Numerals.{add-one}
use native.Mathlib.Nat.{pow-zero, add_assoc, mul-le-mul_left, le_refl, lt_of_lt_of_le, one-le-pow, pow-le-pow_right, pow-suc, pow-succ', mul_assoc, zero-mul, zero-add, mod-lt, mod-one, mod-eq_of_lt, div-one, div-div-eq-div-mul, div-lt_iff_lt-mul, add-mul}
use lib.Arith.{mod-mul, digits_div, digits_mod}
use lib.Dec.{eqb, ltb, leb, lit<, lit≤}
use Rattle.std.specs.List.{position_or_len}
use Rattle.std.specs.Option.{unwrap_or}
use Rattle.std.proofs.lemmas.List.{take-append-drop}
use lib.ListN.{length, get_or, take, drop, set, length-append, length-set, length-drop, drop_of_length-le}
use lib.Seq.{take_all, length-take-le, set_at, drop-cons, drop-drop, drop-set-lt, get_or-set_same, take-suc}
use borrow.Author.Tests.{lt-ltb, le-ltb, le-leb, lt-leb, eq-eqb, ne_eqb, ltb-true, ltb-false, eqb-true, eqb-false, not-true}
use borrow.Rule.Slice.PartMut.{mid_of, put_mid}
use Rattle.choice.specs.Choice.{pick, both}
use Rattle.choice.proofs.Laws.{chosen, both_parts, both_no, both_yes}
use Rattle.text.specs.Scan.{index_of}
use Rattle.wire.specs.Inner.{Wrote}
use Rattle.wire.proofs.Laws.{wrote_then}
use Rattle.address.specs.declared.Address.{Address}
use Rattle.address.specs.declared.Address.TheVariants.{V4, V6}
use Rattle.std.specs.Prelude.{Option, None, Some}
use Rattle.text.specs.Text.{digit, digits_of, size_within, decimal_size, decimal, hex_word, address_text, hex_bytes, digit_value, number_from, of_size, decimal_of, hex_word_of, is_hex, hex_bytes_of}
use Rattle.text.specs.Inner.{hex_into, ReadHex, Past}

-- two numbers are in one of two orders
either : (n m : ℕ) {P : Type 0} → (n < m → P) → (m ≤ n → P) → P
either n m {P} f g = go (ltb n m) refl
  where
    go : (b : Bool) → ltb n m ≡ b → P
    go true e = f (ltb-true n m e)
    go false e = g (ltb-false n m e)

-- ---- digits, in every base and at every width

length_digits : (base w n : ℕ) → length (digits_of base w n) ≡ w
unfolding digits_of
length_digits base zero n = refl
length_digits base (suc w) n = rw (length-append, length_digits base w (n / base)) (add-one w)

-- the digits of m, before place i, are still to come, and the rest of the digits of n is written
pub record Writing (base w n : ℕ) (d l : List ℕ) (m i : ℕ) : Type 0 where
  pub within : i ≤ w
  pub long : length l ≡ length d
  pub is : digits_of base i m ++ drop i l ≡ digits_of base w n ++ drop w d

pub writing_next : {base w n : ℕ} {d l : List ℕ} {m i x : ℕ} → Writing base w n d l m i → 0 < i → w ≤ length d → x ≡ digit (m % base)
    → Writing base w n d (set l (i - 1) x) (m / base) (i - 1)
unfolding digits_of
writing_next {i = zero} r h k e = let y : ⊥ = omega arith in absurd y
writing_next {base} {w} {n} {d} {l} {m} {i = suc i} {x = x} r h k e =
    let j : suc i - 1 ≡ i = omega arith in
    let b : i < length l = omega (arith, r.within, r.long) in
    let f : drop i (set l i x) ≡ x ∷ drop (suc i) l =
    drop-cons (set l i x) i 0 (rw length-set b) ∙ ap₂ (λ (y : ℕ) (t : List ℕ). y ∷ t) (get_or-set_same l i x 0 b) (drop-set-lt (suc i) l i x (le_refl (suc i))) in
    record {
      within = omega (arith, r.within);
      long = simp length-set r.long;
      is = rw (j, f, e) (rw append_assoc at r.is);
    }

pub writing_end : {base w n : ℕ} {d l : List ℕ} {m i : ℕ} → Writing base w n d l m i → i ≤ 0 → w ≤ length d → Wrote (digits_of base w n) d l
unfolding digits_of
writing_end {base} {w} {n} {i = zero} r h k = record { fits = rw length_digits k; is = rw length_digits r.is }
writing_end {i = suc i} r h k = let y : ⊥ = omega arith in absurd y

-- the highest digit first
digits_first : (base w n : ℕ) → digits_of base (suc w) n ≡ digit (n / base ^ w % base) ∷ digits_of base w n
unfolding digits_of
digits_first base zero n = rw (pow-zero, div-one)
digits_first base (suc w) n = rw (digits_first base w (n / base), div-div-eq-div-mul n base (base ^ w), ← pow-succ')

value_digit : (d : ℕ) → d < 16 → digit_value (digit d) ≡ d
unfolding digit digit_value
value_digit d h = either d 10
    (λ l. rw (lt-ltb d 10 l, le-ltb (48 + d) 48 (omega arith), le-leb (48 + d) 57 (omega arith)) (omega arith))
    (λ l. rw (le-ltb d 10 l, le-ltb (87 + d) 48 (omega arith), lt-leb (87 + d) 57 (omega arith), le-ltb (87 + d) 97 (omega arith), le-leb (87 + d) 102 (omega arith)) (omega arith))

-- a character that is a digit, and one that is none
pub digit_decimal : (c : ℕ) → 48 ≤ c → c ≤ 57 → digit_value c ≡ c - 48
unfolding digit_value
digit_decimal c a b = rw (le-ltb c 48 a, le-leb c 57 b)

pub digit_letter : (c : ℕ) → 97 ≤ c → c ≤ 102 → digit_value c ≡ c - 87
unfolding digit_value
digit_letter c a b = rw (le-ltb c 48 (omega arith), lt-leb c 57 (omega arith), le-ltb c 97 a, le-leb c 102 b)

pub digit_none : (c : ℕ) → (48 ≤ c → c ≤ 57 → ⊥) → (97 ≤ c → c ≤ 102 → ⊥) → 16 ≡ digit_value c
unfolding digit_value
digit_none c low high =
    either c 48 (λ a. rw (lt-ltb c 48 a))
    (λ a. either 57 c
    (λ b. either c 97 (λ d. rw (le-ltb c 48 a, lt-leb c 57 b, lt-ltb c 97 d))
    (λ d. either 102 c (λ e. rw (le-ltb c 48 a, lt-leb c 57 b, le-ltb c 97 d, lt-leb c 102 e)) (λ e. absurd (high d e))))
    (λ b. absurd (low a b)))

digit_value_lem : (c : ℕ) → digit_value c < 16 → digit (digit_value c) ≡ c
unfolding digit digit_value
digit_value_lem c h = either c 48
    (λ a. let k : 16 < 16 = rw (lt-ltb c 48 a) at h in absurd (no k))
    (λ a. either 57 c
    (λ b. either c 97
    (λ d. let k : 16 < 16 = rw (le-ltb c 48 a, lt-leb c 57 b, lt-ltb c 97 d) at h in absurd (no k))
    (λ d. either 102 c
    (λ e. let k : 16 < 16 = rw (le-ltb c 48 a, lt-leb c 57 b, le-ltb c 97 d, lt-leb c 102 e) at h in absurd (no k))
    (λ e. rw (le-ltb c 48 a, lt-leb c 57 b, le-ltb c 97 d, le-leb c 102 e, le-ltb (c - 87) 10 (omega arith)) (omega arith))))
    (λ b. rw (le-ltb c 48 a, le-leb c 57 b, lt-ltb (c - 48) 10 (omega arith)) (omega arith)))
  where
    no : 16 < 16 → ⊥
    no k = omega arith

-- ---- numbers, written and read

picked : (b : Bool) (o : Option ℕ) (n : ℕ) → pick b o None ≡ Some n → (b ≡ true) × (o ≡ Some n)
picked true o n e = (refl, e)
picked false o n e = let z : ◌≡◌ {A = ℕ} 0 1 = cc in let y : ⊥ = omega arith in absurd y

module _ (base : ℕ) (p : 0 < base) (h : base ≤ 16) where
  -- a digit that was written is read
  read_digit : (q d : ℕ) (t : List ℕ) → d < base → q * base + d < 2 ^ 64 → number_from base q (digit d ∷ t) ≡ number_from base (q * base + d) t
  unfolding number_from both
  read_digit q d t k f = rw (value_digit d (omega arith), lt-ltb d base k, lt-ltb (q * base + d) (2 ^ 64) f)

  -- and so are digits, before any text t
  read_digits : (w acc n : ℕ) (t : List ℕ) → acc * base ^ w + n % base ^ w < 2 ^ 64
      → number_from base acc (digits_of base w n ++ t) ≡ number_from base (acc * base ^ w + n % base ^ w) t
  unfolding digits_of
  read_digits zero acc n t b =
      let e : acc ≡ acc * base ^ 0 + n % base ^ 0 = rw (pow-zero, mod-one) (omega arith) in
      ap (λ (m : ℕ). number_from base m t) e
  read_digits (suc w) acc n t b =
      let q = acc * base ^ w + n / base % base ^ w in
      let e : q * base + n % base ≡ acc * base ^ suc w + n % base ^ suc w =
      rw (pow-suc, mod-mul n (one-le-pow w base p) p) (simp (add-mul, mul_assoc, add_assoc)) in
      let f : q * base + n % base < 2 ^ 64 = rw e b in
      let l : q * 1 ≤ q * base = mul-le-mul_left q p in
      rw append_assoc (read_digits w acc (n / base) (digit (n % base) ∷ t) (omega arith) ∙ read_digit q (n % base) t (mod-lt n p) f ∙ ap (λ (m : ℕ). number_from base m t) e)

  -- what is read is a number below 2^64, and the text is its digits
  read_only : (acc n : ℕ) (l : List ℕ) → acc < 2 ^ 64 → number_from base acc l ≡ Some n
      → (n < 2 ^ 64) × ((n ≡ acc * base ^ length l + n % base ^ length l) × (l ≡ digits_of base (length l) n))
  unfolding number_from digits_of
  read_only acc n [] b e =
      let f : acc ≡ n = cc in
      (rw (← f) b, (rw (pow-zero, mod-one) (omega arith), refl))
  read_only acc n (c ∷ l) b e =
      let v = digit_value c in
      let w = length l in
      let t = picked (both (ltb v base) (ltb (acc * base + v) (2 ^ 64))) (number_from base (acc * base + v) l) n e in
      let ts = both_parts (ltb v base) (ltb (acc * base + v) (2 ^ 64)) t.0 in
      let k : v < base = ltb-true v base ts.0 in
      let r = read_only (acc * base + v) n l (ltb-true (acc * base + v) (2 ^ 64) ts.1) t.1 in
      let q : n / base ^ w ≡ acc * base + v = ap (λ (m : ℕ). m / base ^ w) r.1.0 ∙ digits_div (acc * base + v) (mod-lt n (one-le-pow w base p)) in
      let m : n / base ^ w % base ≡ v = ap (λ (x : ℕ). x % base) q ∙ digits_mod acc k in
      let i : n % base ^ suc w ≡ v * base ^ w + n % base ^ w = rw (pow-succ', mod-mul n p (one-le-pow w base p), m) in
      (r.0, (r.1.0 ∙ rw (i, pow-succ') (simp (add-mul, mul_assoc, add_assoc)), rw (digits_first base w n, m, digit_value_lem c (omega arith)) (ap (λ (x : List ℕ). c ∷ x) r.1.1)))

-- ---- how many decimal digits a number has

size_within_lem : (j k n : ℕ) → n ≤ j → n ≤ k → size_within j n ≡ size_within k n
unfolding size_within
size_within_lem zero zero n a b = refl
size_within_lem zero (suc k) n a b = rw (lt-ltb n 10 (omega arith))
size_within_lem (suc j) zero n a b = rw (lt-ltb n 10 (omega arith))
size_within_lem (suc j) (suc k) n a b = either n 10
    (λ l. rw (lt-ltb n 10 l))
    (λ l. rw (le-ltb n 10 l) (ap suc (size_within_lem j k (n / 10) (omega arith) (omega arith))))

size_small : (n : ℕ) → n < 10 → decimal_size n ≡ 1
unfolding decimal_size size_within
size_small zero h = refl
size_small (suc n) h = rw (lt-ltb (suc n) 10 h)

size_more : (n : ℕ) → 10 ≤ n → decimal_size n ≡ suc (decimal_size (n / 10))
unfolding decimal_size size_within
size_more zero h = omega arith
size_more (suc n) h = rw (le-ltb (suc n) 10 h) (ap suc (size_within_lem n (suc n / 10) (suc n / 10) (omega arith) (omega arith)))

pub size_le : (k n : ℕ) → n < 10 ^ suc k → decimal_size n ≤ suc k
size_le zero n h = rw (size_small n h) (lit≤ tt)
size_le (suc k) n h = either n 10
    (λ l. rw (size_small n l) (omega arith))
    (λ l. rw (size_more n l) (suc-le-suc (size_le k (n / 10) ((div-lt_iff_lt-mul (lit< tt)).1 (rw pow-suc at h)))))

pub size_twenty : (n : ℕ) → n < 2 ^ 64 → decimal_size n ≤ 20
size_twenty n h = size_le 19 n (lt_of_lt_of_le h (lit≤ tt))

size_holds : (k n : ℕ) → n ≤ k → n < 10 ^ decimal_size n
size_holds zero n h = rw (size_small n (omega arith)) (omega arith)
size_holds (suc k) n h = either n 10
    (λ l. rw (size_small n l) l)
    (λ l. rw (size_more n l, pow-suc) ((div-lt_iff_lt-mul (lit< tt)).0 (size_holds k (n / 10) (omega arith))))

pub length-decimal : (n : ℕ) → length (decimal n) ≡ decimal_size n
unfolding decimal
length-decimal n = length_digits 10 (decimal_size n) n

pub size_of_zero : {n : ℕ} → n ≡ 0 → 1 ≡ length (decimal n)
size_of_zero {n} e = sym (length-decimal n ∙ size_small n (omega arith))

-- 10 ^ k is the highest power of ten that is not above n
pub size_is : (n k : ℕ) → 10 ^ k ≤ n → n < 10 * 10 ^ k → k + 1 ≡ length (decimal n)
size_is n k h l =
    let most = size_le k n (rw pow-suc (omega arith)) in
    let least : k < decimal_size n = either k (decimal_size n) (λ a. a) (λ a.
    let more = pow-le-pow_right {n = 10} (lit< tt) a in
    let holds = size_holds n n (le_refl n) in
    let y : ⊥ = omega arith in absurd y) in
    omega (arith, length-decimal n)

pub length_hex_word : (n : ℕ) → length (hex_word n) ≡ 8
unfolding hex_word
length_hex_word n = length_digits 16 8 n

pub length_v4 : {address : Address} {a : ℕ} → address ≡ V4 a → length (address_text address) ≡ 8
unfolding address_text
length_v4 {a = a} e = rw e (length_hex_word a)

pub length_v6 : {address : Address} {a b c d : ℕ} → address ≡ V6 a b c d → length (address_text address) ≡ 32
unfolding address_text
length_v6 e = rw e (simp (length-append, length_hex_word))

pub address_length : (address : Address) → length (address_text address) ≤ 32
address_length (V4 a) = omega (arith, length_v4 {a = a} refl)
address_length (V6 a b c d) = omega (arith, length_v6 {a = a} {b = b} {c = c} {d = d} refl)

-- ---- there and back

pub decimal-length : (n : ℕ) → n < 2 ^ 64 → length (decimal n) ≤ 20
decimal-length n h = rw length-decimal (size_twenty n h)

-- all of a text of w digits
read_whole : (base w n : ℕ) → 0 < base → base ≤ 16 → n < base ^ w → n < 2 ^ 64 → number_from base 0 (digits_of base w n) ≡ Some n
unfolding number_from
read_whole base w n p h k b =
    let e : 0 * base ^ w + n % base ^ w ≡ n = rw (zero-mul, mod-eq_of_lt k) (zero-add n) in
    ap (number_from base 0) (sym (append-nil (digits_of base w n))) ∙ read_digits base p h w 0 n [] (rw e b) ∙ ap Some e

pub decimal_read : (n : ℕ) → n < 2 ^ 64 → decimal_of (decimal n) ≡ Some n
unfolding decimal_of decimal of_size
decimal_read n h = rw (read_whole 10 (decimal_size n) n (lit< tt) (lit≤ tt) (size_holds n n (le_refl n)) h, eq-eqb _ _ (sym (length_digits 10 (decimal_size n) n)))

pub hex_word_read : (n : ℕ) → n < 2 ^ 32 → hex_word_of (hex_word n) ≡ Some n
unfolding hex_word_of hex_word
hex_word_read n h = rw (eq-eqb _ _ (length_digits 16 8 n)) (read_whole 16 8 n (lit< tt) (lit≤ tt) h (omega arith))

pub hex_bytes_read : (l : List ℕ) → ((i : ℕ) → get_or l i 0 < 256) → (is_hex (hex_bytes l) ≡ true) × (hex_bytes_of (hex_bytes l) ≡ l)
unfolding hex_bytes is_hex hex_bytes_of digits_of both
hex_bytes_read [] h = (refl, refl)
hex_bytes_read (b ∷ l) h =
    let r = hex_bytes_read l (λ i. h (suc i)) in
    let k : b < 256 = h 0 in
    let x = value_digit (b / 16 % 16) (omega arith) in
    let y = value_digit (b % 16) (omega arith) in
    let e : b / 16 % 16 * 16 + b % 16 ≡ b = omega arith in
    (rw (x, y, lt-ltb (b / 16 % 16) 16 (omega arith), lt-ltb (b % 16) 16 (omega arith)) r.0, rw (x, y, e, r.1))

-- ---- and no other text is read

sized : (size : ℕ) (o : Option ℕ) (n : ℕ) → of_size size o ≡ Some n → (o ≡ Some n) × (decimal_size n ≡ size)
unfolding of_size
sized size (Some m) n e =
    let t = picked (eqb (decimal_size m) size) (Some m) n e in
    let f : n ≡ m = cc in
    (t.1, ap decimal_size f ∙ eqb-true (decimal_size m) size t.0)
sized size None n e = let z : ◌≡◌ {A = ℕ} 0 1 = cc in let y : ⊥ = omega arith in absurd y

pub decimal_only : (n : ℕ) (l : List ℕ) → decimal_of l ≡ Some n → (n < 2 ^ 64) × (l ≡ decimal n)
unfolding decimal_of decimal
decimal_only n l e =
    let t = sized (length l) (number_from 10 0 l) n e in
    let r = read_only 10 (lit< tt) (lit≤ tt) 0 n l (lit< tt) t.0 in
    (r.0, r.1.1 ∙ ap (λ (w : ℕ). digits_of 10 w n) (sym t.1))

pub hex_word_only : (n : ℕ) (l : List ℕ) → hex_word_of l ≡ Some n → (n < 2 ^ 32) × (l ≡ hex_word n)
unfolding hex_word_of hex_word
hex_word_only n l e =
    let t = picked (eqb (length l) 8) (number_from 16 0 l) n e in
    let w : length l ≡ 8 = eqb-true (length l) 8 t.0 in
    let r = read_only 16 (lit< tt) (lit≤ tt) 0 n l (lit< tt) t.1 in
    let m : n ≡ 0 * 16 ^ 8 + n % 16 ^ 8 = rw w at r.1.0 in
    (omega arith, r.1.1 ∙ ap (λ (k : ℕ). digits_of 16 k n) w)

pub hex_bytes_only : (l : List ℕ) → is_hex l ≡ true → hex_bytes (hex_bytes_of l) ≡ l
unfolding hex_bytes is_hex hex_bytes_of digits_of both
hex_bytes_only [] t = refl
hex_bytes_only (c ∷ []) t = absurd (false≢true t)
hex_bytes_only (c ∷ e ∷ l) t =
    let v = digit_value c in
    let w = digit_value e in
    let ts = both_parts (ltb v 16) (both (ltb w 16) (is_hex l)) t in
    let us = both_parts (ltb w 16) (is_hex l) ts.1 in
    let h : v < 16 = ltb-true v 16 ts.0 in
    let k : w < 16 = ltb-true w 16 us.0 in
    let x : (v * 16 + w) / 16 % 16 ≡ v = omega arith in
    let y : (v * 16 + w) % 16 ≡ w = omega arith in
    rw (x, y, digit_value_lem c h, digit_value_lem e k) (ap (λ (r : List ℕ). c ∷ e ∷ r) (hex_bytes_only l us.1))

-- ---- what the loops cite

-- a number's loop at place i, where n is read
pub record Reading (base : ℕ) (s : List ℕ) (n i : ℕ) : Type 0 where
  pub is : number_from base 0 s ≡ number_from base n (drop i s)

module _ {base : ℕ} {s : List ℕ} {n i d : ℕ} (r : Reading base s n i) (l : i < length s) (v : d ≡ digit_value (get_or s i 0)) where
  number_step : number_from base 0 s ≡ pick (both (ltb d base) (ltb (n * base + d) (2 ^ 64))) (number_from base (n * base + d) (drop (i + 1) s)) None
  unfolding number_from
  number_step = r.is ∙ rw (drop-cons s i 0 l, add-one, v)

  pub number_bad : base ≤ d → None ≡ number_from base 0 s
  unfolding both
  number_bad k = sym (number_step ∙ rw (le-ltb d base k))

  pub number_over : d < base → 2 ^ 64 ≤ n * base + d → None ≡ number_from base 0 s
  unfolding both
  number_over k o = sym (number_step ∙ rw (lt-ltb d base k, le-ltb (n * base + d) (2 ^ 64) o))

  pub number_next : {m : ℕ} → d < base → m ≡ n * base + d → m < 2 ^ 64 → Reading base s m (i + 1)
  unfolding both
  number_next {m} k e o = record { is = number_step ∙ rw (← e, lt-ltb d base k, lt-ltb m (2 ^ 64) o) }

pub number_end : {base : ℕ} {s : List ℕ} {n i : ℕ} → Reading base s n i → length s ≤ i → Some n ≡ number_from base 0 s
unfolding number_from
number_end {base} {s} {n} {i} r l = sym (r.is ∙ rw (drop_of_length-le s l))

-- a character that is a digit, by its place in the code
pub digit_low : (c : ℕ) → c < 58 → leb 48 c ≡ ltb (digit_value c) 16
unfolding digit_value
digit_low c h =
    either c 48
    (λ a. rw (lt-leb 48 c a, lt-ltb c 48 a))
    (λ a. rw (le-leb 48 c a, le-ltb c 48 a, le-leb c 57 (omega arith)) (sym (lt-ltb (c - 48) 16 (omega arith))))

pub digit_high : (c : ℕ) → 58 ≤ c → both (leb 97 c) (leb c 102) ≡ ltb (digit_value c) 16
unfolding digit_value both
digit_high c h =
    either c 97
    (λ a. rw (lt-leb 97 c a, le-ltb c 48 (omega arith), lt-leb c 57 (omega arith), lt-ltb c 97 a))
    (λ a.
    rw (le-leb 97 c a, le-ltb c 48 (omega arith), lt-leb c 57 (omega arith), le-ltb c 97 a)
    (either 102 c (λ b. rw (lt-leb c 102 b)) (λ b. rw (le-leb c 102 b) (sym (lt-ltb (c - 87) 16 (omega arith))))))

pub digit-sum : (c : ℕ) → digit_value c < 16 → c % 16 + 9 * (c / 64) ≡ digit_value c
unfolding digit_value
digit-sum c h =
    either c 48
    (λ a. none (rw (lt-ltb c 48 a) at h))
    (λ a. either 57 c (λ b. late a b h) (λ b. rw (le-ltb c 48 a, le-leb c 57 b) (omega arith)))
  where
    none : {P : Type 0} → 16 < 16 → P
    none l = let y : ⊥ = omega (arith, l) in absurd y

    late : 48 ≤ c → 57 < c → digit_value c < 16 → c % 16 + 9 * (c / 64) ≡ digit_value c
    late a b l =
        either c 97
        (λ d. none (rw (le-ltb c 48 a, lt-leb c 57 b, lt-ltb c 97 d) at l))
        (λ d.
        either 102 c
        (λ e. none (rw (le-ltb c 48 a, lt-leb c 57 b, le-ltb c 97 d, lt-leb c 102 e) at l))
        (λ e. rw (le-ltb c 48 a, lt-leb c 57 b, le-ltb c 97 d, le-leb c 102 e) (omega arith)))

-- a text is hex where its length is even and every character is a digit
unfoldable pub all_digits : List ℕ → Bool
all_digits [] = true
all_digits (c ∷ l) = both (ltb (digit_value c) 16) (all_digits l)

both_third : (a b e r : Bool) → both a (both b (both e r)) ≡ both e (both a (both b r))
unfolding both
both_third true true e r = refl
both_third true false e r = sym (both_no e)
both_third false b e r = sym (both_no e)

both_assoc : (a b r : Bool) → both a (both b r) ≡ both (both a b) r
unfolding both
both_assoc true b r = refl
both_assoc false b r = refl

hex_digits : (l : List ℕ) → is_hex l ≡ both (eqb (length l % 2) 0) (all_digits l)
unfolding is_hex all_digits both
hex_digits [] = refl
hex_digits (c ∷ []) = refl
hex_digits (c ∷ e ∷ l) =
    let even : length l % 2 ≡ suc (suc (length l)) % 2 = omega arith in
    ap (λ (b : Bool). both (ltb (digit_value c) 16) (both (ltb (digit_value e) 16) b)) (hex_digits l)
    ∙ both_third (ltb (digit_value c) 16) (ltb (digit_value e) 16) (eqb (length l % 2) 0) (all_digits l)
    ∙ ap (λ (n : ℕ). both (eqb n 0) (all_digits (c ∷ e ∷ l))) even

-- a test of hex at place i
pub record Testing (s : List ℕ) (i : ℕ) (good : Bool) : Type 0 where
  pub is : is_hex s ≡ both good (all_digits (drop i s))

pub testing_start : (s : List ℕ) → Testing s 0 (eqb (length s % 2) 0)
testing_start s = record { is = hex_digits s }

pub testing_next : {s : List ℕ} {i : ℕ} {good is_digit more : Bool} → Testing s i good → i < length s
    → is_digit ≡ ltb (digit_value (get_or s i 0)) 16 → more ≡ both good is_digit → Testing s (i + 1) more
unfolding all_digits
testing_next {s} {i} {good} {is_digit} {more} r l d m = record {
  is = r.is ∙ rw (drop-cons s i 0 l, ← d, m, add-one) (both_assoc good is_digit (all_digits (drop (suc i) s)));
}

pub testing_end : {s : List ℕ} {i : ℕ} {good : Bool} → Testing s i good → length s ≤ i → good ≡ is_hex s
unfolding all_digits
testing_end {s} {i} {good} r l = sym (r.is ∙ rw (drop_of_length-le s l) (both_yes good))

length_hex : (t : List ℕ) → length (hex_bytes_of t) ≡ length t / 2
unfolding hex_bytes_of
length_hex [] = refl
length_hex (a ∷ []) = refl
length_hex (a ∷ b ∷ t) = rw (length_hex t) (omega arith)

-- a text that is read, as its definition says it
module _ (l : List ℕ) {read : Option ℕ} (is : read ≡ number_from 10 0 l) where
  pub decimal_none : read ≡ None → None ≡ decimal_of l
  unfolding decimal_of of_size
  decimal_none e = rw (← is, e)

  module _ {n size : ℕ} (e : read ≡ Some n) (f : size ≡ length (decimal n)) where
    pub decimal_short : size ≡ length l → Some n ≡ decimal_of l
    unfolding decimal_of of_size
    decimal_short g = rw (← is, e, eq-eqb (decimal_size n) (length l) (sym (length-decimal n) ∙ sym f ∙ g))

    pub decimal_long : (size ≡ length l → ⊥) → None ≡ decimal_of l
    unfolding decimal_of of_size
    decimal_long g = rw (← is, e, ne_eqb (decimal_size n) (length l) (λ h. g (f ∙ length-decimal n ∙ h)))

pub hex_word_of_lem : {r : Option ℕ} (l : List ℕ) → length l ≡ 8 → r ≡ number_from 16 0 l → r ≡ hex_word_of l
unfolding hex_word_of
hex_word_of_lem l e f = rw (f, eq-eqb (length l) 8 e)

pub hex_word_of_none : (l : List ℕ) → (length l ≡ 8 → ⊥) → None ≡ hex_word_of l
unfolding hex_word_of
hex_word_of_none l n = rw (ne_eqb (length l) 8 n)

pub decimal_wrote : (n : ℕ) {size : ℕ} {d l : List ℕ} → size ≡ length (decimal n) → Wrote (digits_of 10 size n) d l → Wrote (decimal n) d l
unfolding decimal
decimal_wrote n {size} {d} {l} e w = subst (λ (k : ℕ). Wrote (digits_of 10 k n) d l) (e ∙ length-decimal n) w

-- two digits more
pub length_hex_bytes : (v : List ℕ) → length (hex_bytes v) ≡ 2 * length v
unfolding hex_bytes
length_hex_bytes [] = refl
length_hex_bytes (b ∷ v) = rw (length-append, length_digits 16 2 b, length_hex_bytes v) (omega arith)

hex_append : (u v : List ℕ) → hex_bytes (u ++ v) ≡ hex_bytes u ++ hex_bytes v
unfolding hex_bytes
hex_append [] v = refl
hex_append (b ∷ u) v = rw (hex_append u v, append_assoc)

-- the first i bytes of v are written
pub record Hexing (v d l : List ℕ) (i : ℕ) : Type 0 where
  pub within : i ≤ length v
  pub is : Wrote (hex_bytes (take i v)) d l

pub hexing_start : (v d : List ℕ) → Hexing v d d 0
unfolding hex_bytes
hexing_start v d = record { within = omega arith; is = record { fits = omega arith; is = refl } }

pub hexing_next : {v d l y : List ℕ} {i b : ℕ} → Hexing v d l i → i < length v → b ≡ get_or v i 0
    → Wrote (digits_of 16 2 b) (mid_of (2 * i) (length l - 2 * i) l) y → Hexing v d (put_mid (2 * i) (length l - 2 * i) l y) (i + 1)
unfolding hex_bytes
hexing_next {v} {d} {l} {y} {i} {b} r h e w =
    let k : length (hex_bytes (take i v)) ≡ 2 * i = length_hex_bytes (take i v) ∙ ap (λ (k : ℕ). 2 * k) (length-take-le i v (omega arith)) in
    let f : hex_bytes (take (i + 1) v) ≡ hex_bytes (take i v) ++ digits_of 16 2 b =
    rw (add-one, take-suc v i 0 h, hex_append, e, append-nil) in
    record { within = omega arith; is = rw f (wrote_then r.is k w) }

pub hexing_end : {v d l : List ℕ} {i : ℕ} → Hexing v d l i → length v ≤ i → Wrote (hex_bytes v) d l
hexing_end {v} {d} {l} {i} r h = rw (take_all i v h) at r.is

-- a buffer that a hex text was read into
pub hex_into_lem : (t before : List ℕ) → is_hex t ≡ true → hex_into t before ≡ hex_bytes_of t ++ drop (length (hex_bytes_of t)) before
unfolding hex_into
hex_into_lem t before hex = rw hex

pub not_read : {t d : List ℕ} → is_hex t ≡ false → ReadHex t d d None
unfolding hex_into
not_read bad = record { answer = rw bad; is = rw bad }

hex_short : (l : List ℕ) → is_hex l ≡ true → length l < 2 → l ≡ []
unfolding is_hex
hex_short [] t h = refl
hex_short (c ∷ []) t h = absurd (false≢true t)
hex_short (c ∷ e ∷ l) t h = let y : ⊥ = omega (arith, h) in absurd y

-- of a hex text the bytes of the first k pairs are read
pub record Filling (s d l : List ℕ) (k : ℕ) : Type 0 where
  pub good : is_hex s ≡ true
  pub within : 2 * k ≤ length s
  pub left : is_hex (drop (2 * k) s) ≡ true
  pub read : List ℕ
  pub count : length read ≡ k
  pub front : hex_bytes_of s ≡ read ++ hex_bytes_of (drop (2 * k) s)
  pub long : length l ≡ length d
  pub is : l ≡ read ++ drop k d

pub filling_start : (s d : List ℕ) → is_hex s ≡ true → Filling s d d 0
filling_start s d hex = record { good = hex; within = omega arith; left = hex; read = []; count = refl; front = refl; long = refl; is = refl }

next_pair : (s : List ℕ) (i : ℕ) → i + 2 ≤ length s → drop i s ≡ get_or s i 0 ∷ get_or s (i + 1) 0 ∷ drop (i + 2) s
next_pair s i h =
    let e : suc (i + 1) ≡ i + 2 = omega arith in
    rw (drop-cons s i 0 (omega arith), ← add-one i, drop-cons s (i + 1) 0 (omega arith), e)

module _ {s d l : List ℕ} {k : ℕ} (r : Filling s d l k) where
  module _ (a : k < length s / 2) where
    both_digits : both (ltb (digit_value (get_or s (2 * k) 0)) 16) (both (ltb (digit_value (get_or s (2 * k + 1) 0)) 16) (is_hex (drop (2 * k + 2) s))) ≡ true
    unfolding is_hex
    both_digits = sym (ap is_hex (next_pair s (2 * k) (omega arith))) ∙ r.left

    pub filling_high : digit_value (get_or s (2 * k) 0) < 16
    filling_high = ltb-true _ 16 (both_parts _ _ both_digits).0

    pub filling_low : digit_value (get_or s (2 * k + 1) 0) < 16
    filling_low = ltb-true _ 16 (both_parts _ _ (both_parts _ _ both_digits).1).0

    pub filling_next : {x y : ℕ} → x ≡ digit_value (get_or s (2 * k) 0) → y ≡ digit_value (get_or s (2 * k + 1) 0) → length s ≤ 2 * length d
        → Filling s d (set l k (x * 16 + y)) (k + 1)
    unfolding hex_bytes_of
    filling_next {x} {y} u v room =
        let e : 2 * (k + 1) ≡ 2 * k + 2 = omega arith in
        record {
          good = r.good;
          within = omega arith;
          left = rw e (both_parts _ _ (both_parts _ _ both_digits).1).1;
          read = r.read ++ (x * 16 + y) ∷ [];
          count = rw (length-append, r.count) (omega arith);
          front = r.front ∙ rw (next_pair s (2 * k) (omega arith), ← u, ← v, e, append_assoc);
          long = simp length-set r.long;
          is = rw (r.is, drop-cons d k 0 (omega arith), set_at r.read (get_or d k 0) (drop (suc k) d) (x * 16 + y) k r.count, add-one, append_assoc);
        }

  pub filling_end : length s / 2 ≤ k → ReadHex s d l (Some (length s / 2))
  unfolding hex_into hex_bytes_of
  filling_end a =
      let none = hex_short (drop (2 * k) s) r.left (rw (length-drop (2 * k) s) (omega arith)) in
      let all : hex_bytes_of s ≡ r.read = r.front ∙ rw (none, append-nil) in
      record { answer = rw (r.good, length_hex s); is = rw (r.good, all, r.count) r.is }

-- ---- a search for a byte: one that has come to `start` goes on behind a block that it is past
pub past_none : (b : ℕ) → Past [] b
past_none b rest = sym (zero-add (index_of b rest))

past_one : (block : List ℕ) (b c : ℕ) → Past block b → (c ≡ b → ⊥) → Past (block ++ c ∷ []) b
unfolding index_of
past_one block b c before other rest =
    rw (append_assoc, before (c ∷ rest), ne_eqb c b other, length-append) (omega arith)

pub past_more : (block : List ℕ) (b i : ℕ) {past more : Bool} → (past ≡ true → Past (take i block) b) → i < length block → more ≡ both past (not (eqb (get_or block i 0) b)) → more ≡ true
    → Past (take (i + 1) block) b
past_more block b i {past} before h e t =
    let ts = both_parts past (not (eqb (get_or block i 0) b)) (sym e ∙ t) in
    rw (add-one, take-suc block i 0 h) (past_one (take i block) b (get_or block i 0) (before ts.0) (eqb-false (get_or block i 0) b (not-true _ ts.1)))

-- the place as std has it
index_is : (b : ℕ) (a : List ℕ) → index_of b a ≡ position_or_len (λ (c : ℕ). eqb c b) a
unfolding index_of
index_is b [] = refl
index_is b (c ∷ a) = go (eqb c b) (index_is b a)
  where
    go : (t : Bool) → index_of b a ≡ position_or_len (λ (c : ℕ). eqb c b) a → pick t 0 (suc (index_of b a)) ≡ cond (not t) (1 + position_or_len (λ (c : ℕ). eqb c b) a) 0
    go true e = refl
    go false e = rw e (omega arith)

pub index_within : (b : ℕ) (a : List ℕ) → index_of b a ≤ length a
unfolding index_of
index_within b [] = omega arith
index_within b (c ∷ a) = chosen (λ (n : ℕ). n ≤ suc (length a)) (eqb c b) (λ e. omega arith) (λ e. suc-le-suc (index_within b a))

pub index_found : (b : ℕ) (a : List ℕ) {o : Option ℕ} {r : ℕ}
    → o ≡ cond (ltb (position_or_len (λ (c : ℕ). eqb c b) a) (length a)) (Some (position_or_len (λ (c : ℕ). eqb c b) a)) None → r ≡ unwrap_or o (length a)
    → (r ≡ index_of b a) × (r ≤ length a)
index_found b a {o} {r} e f =
    let i = index_of b a in
    let told : o ≡ cond (ltb i (length a)) (Some i) None = rw (index_is b a) e in
    let within = index_within b a in
    let is : r ≡ i = either i (length a)
    (λ l. f ∙ rw (told, lt-ltb i (length a) l))
    (λ l. f ∙ rw (told, le-ltb i (length a) l) (omega arith)) in
    (is, omega arith)

-- b is not in the first `start` bytes
pub record NotBefore (a : List ℕ) (b start : ℕ) : Type 0 where
  pub within : start ≤ length a
  pub is : index_of b a ≡ start + index_of b (drop start a)

pub past_all : (a : List ℕ) (b start n : ℕ) {next : ℕ} → NotBefore a b start → Past (take n (drop start a)) b → next ≡ start + n → next ≤ length a → NotBefore a b next
past_all a b start n {next} r past e l =
    let s = drop start a in
    let size : length (take n s) ≡ n = length-take-le n s (rw (length-drop start a) (omega arith)) in
    let whole : index_of b s ≡ n + index_of b (drop n s) = rw (take-append-drop n s, size) at (past (drop n s)) in
    let behind : drop n s ≡ drop (start + n) a = drop-drop n start a in
    record { within = l; is = rw (r.is, whole, behind, e) (omega arith) }
