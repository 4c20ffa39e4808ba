-- The laws of numbers in network order and of XOR, over the width, and of a run of writes.
use Prim.Native.Nat.{ℕ, zero, suc, ◌+◌, ◌-◌, ◌*◌, ◌/◌, ◌%◌, ◌^◌, ◌≤◌, ◌<◌}
use mathlib.Core.Path.{◌≡◌, refl, sym, ap, ap₂, ◌∙◌}
use mathlib.Core.List.{List, [], ◌∷◌, ◌++◌, append_assoc, append-nil}
use lib.ListN.{length, get_or, take, drop, replicate, length-append, length-drop, length-replicate, drop_of_length-le}
use lib.Seq.{get_or-append-add, take_at, drop_at, drop-drop, take_all, take-length, sets, sets-eq}
use native.Mathlib.Omega.{arith}
use native.Mathlib.Nat.{suc-add, suc-mul, pow-suc, add-zero, zero-add, zero-mul, add_assoc, mul_assoc, mul_comm, add-mul, div-div-eq-div-mul, mod-mod, mod-eq_of_lt, mod-lt, mod-one, div-one, pow-succ', div-add-mod'}
use lib.Arith.{mod-mul, digits_div, digits_mod, bin_ind}
use lib.Bits.{bit_xor, differ, xor_step, xor_self}
use borrow.Rule.Slice.PartMut.{mid_of, put_mid}
use lib.Dec.{lit<}
use borrow.Author.Tests.{le-leb, lt-leb}
use Rattle.std.specs.Int.{bytes_high_first}
use Rattle.wire.specs.Wire.{num, bytes_of, part_of}
use Rattle.wire.specs.Inner.{Wrote}

pub pow_pos : (w : ℕ) → 0 < 256 ^ w
pow_pos zero = lit< tt
pow_pos (suc w) = rw pow-succ' (let h = pow_pos w in omega arith)

-- a list of one value has it at every place, and past its end
pub all_same : {A : Type 0} (x : A) (n i : ℕ) → get_or (replicate n x) i x ≡ x
all_same x zero i = refl
all_same x (suc n) zero = refl
all_same x (suc n) (suc i) = all_same x n i

-- ---- reading

-- a number of a + b bytes is one of a bytes, and then one of b bytes
pub num-add : (s : List ℕ) (at a b : ℕ) → num s at (a + b) ≡ num s at a * 256 ^ b + num s (at + a) b
unfolding num
num-add s at zero b = simp (zero-add, zero-mul, add-zero)
num-add s at (suc a) b =
    let e : at + 1 + a ≡ at + suc a = omega arith in
    rw (suc-add, num-add s (at + 1) a b, lib.Pow.pow-add 256 a b, e) (simp (add-mul, mul_assoc, add_assoc))

-- behind p
pub num-append : (p s : List ℕ) (at w : ℕ) → num (p ++ s) (length p + at) w ≡ num s at w
unfolding num
num-append p s at zero = refl
num-append p s at (suc w) = rw (get_or-append-add p s at 0, add_assoc, num-append p s (at + 1) w)

-- ---- writing

pub length_bytes : (w n : ℕ) → length (bytes_of w n) ≡ w
unfolding bytes_of
length_bytes zero n = refl
length_bytes (suc w) n = ap suc (length_bytes w n)

-- n in a + b bytes is n / 256 ^ b in a bytes, and then n in b bytes
pub bytes_add : (a b n : ℕ) → bytes_of (a + b) n ≡ bytes_of a (n / 256 ^ b) ++ bytes_of b n
unfolding bytes_of
bytes_add zero b n = rw zero-add
bytes_add (suc a) b n =
    rw (suc-add, bytes_add a b n, lib.Pow.pow-add 256 a b, div-div-eq-div-mul n (256 ^ b) (256 ^ a), mul_comm (256 ^ b) (256 ^ a))

-- the higher digits do not count
pub bytes_mod : (w n : ℕ) → bytes_of w (n % 256 ^ w) ≡ bytes_of w n
unfolding bytes_of
bytes_mod zero n = refl
bytes_mod (suc w) n =
    let c = 256 ^ w in
    let e : n % 256 ^ suc w ≡ (n / c % 256) * c + n % c = rw pow-succ' (mod-mul n (lit< tt) (pow_pos w)) in
    let h : n % 256 ^ suc w / c % 256 ≡ n / c % 256 = rw (e, digits_div (n / c % 256) (mod-lt n (pow_pos w))) (mod-mod (n / c) 256) in
    let t : n % 256 ^ suc w % c ≡ n % c = rw (e, digits_mod (n / c % 256) (mod-lt n (pow_pos w))) in
    ap₂ (λ (x : ℕ) (l : List ℕ). x ∷ l) h (sym (bytes_mod w (n % 256 ^ suc w)) ∙ ap (bytes_of w) t ∙ bytes_mod w n)

-- ---- there and back: what was written is read, at every width
pub num_bytes : (w n : ℕ) (r : List ℕ) → num (bytes_of w n ++ r) 0 w ≡ n % 256 ^ w
unfolding num bytes_of
num_bytes zero n r = sym (mod-one n)
num_bytes (suc w) n r =
    let e : num (bytes_of (suc w) n ++ r) 1 w ≡ n % 256 ^ w = num-append (n / 256 ^ w % 256 ∷ []) (bytes_of w n ++ r) 0 w ∙ num_bytes w n r in
    rw (e, pow-succ') (sym (mod-mul n (lit< tt) (pow_pos w)))

pub num-written : (w n : ℕ) (r : List ℕ) → n < 256 ^ w → num (bytes_of w n ++ r) 0 w ≡ n
num-written w n r h = num_bytes w n r ∙ mod-eq_of_lt h

-- ---- XOR undoes itself, at every width
differ_twice : (x y : ℕ) → x < 2 → y < 2 → differ (differ x y) y ≡ x
differ_twice zero zero h k = refl
differ_twice zero (suc zero) h k = refl
differ_twice (suc zero) zero h k = refl
differ_twice (suc zero) (suc zero) h k = refl
differ_twice zero (suc (suc y)) h k = omega arith
differ_twice (suc zero) (suc (suc y)) h k = omega arith
differ_twice (suc (suc x)) y h k = omega arith

differ_lt : (x y : ℕ) → x < 2 → y < 2 → differ x y < 2
differ_lt zero y h k = k
differ_lt (suc x) zero h k = h
differ_lt (suc x) (suc y) h k = differ_lt x y (omega arith) (omega arith)

pub xor_twice : (n key : ℕ) → bit_xor (bit_xor n key) key ≡ n
xor_twice = bin_ind (λ (n : ℕ). (key : ℕ) → bit_xor (bit_xor n key) key ≡ n) (λ key. xor_self key) step
  where
    step : (n : ℕ) → ((key : ℕ) → bit_xor (bit_xor (n / 2) key) key ≡ n / 2) → (key : ℕ) → bit_xor (bit_xor n key) key ≡ n
    step n ih key =
        let l : differ (n % 2) (key % 2) < 2 = differ_lt (n % 2) (key % 2) (omega arith) (omega arith) in
        let q = ap (λ (x : ℕ). x / 2) (xor_step n key) ∙ digits_div (bit_xor (n / 2) (key / 2)) l in
        let m = ap (λ (x : ℕ). x % 2) (xor_step n key) ∙ digits_mod (bit_xor (n / 2) (key / 2)) l in
        xor_step (bit_xor n key) key
        ∙ ap₂ (λ (x y : ℕ). bit_xor x (key / 2) * 2 + differ y (key % 2)) q m
        ∙ ap₂ (λ (x y : ℕ). x * 2 + y) (ih (key / 2)) (differ_twice (n % 2) (key % 2) (omega arith) (omega arith))
        ∙ div-add-mod' n 2

-- ---- a run of writes

-- after A, B was written into the part of m bytes and more behind it
pub wrote_then : {A B d d1 y : List ℕ} {m : ℕ} → Wrote A d d1 → length A ≡ m → Wrote B (mid_of m (length d1 - m) d1) y
    → Wrote (A ++ B) d (put_mid m (length d1 - m) d1 y)
wrote_then {A} {B} {d} {d1} {y} {m} u a v =
    let e : d1 ≡ A ++ drop m d = rw (← a) u.is in
    let h : m ≤ length d = rw (← a) u.fits in
    let l : length d1 ≡ length d = ap length e ∙ simp (length-append, a, length-drop) (omega arith) in
    let t : take m d1 ≡ A = ap (take m) e ∙ take_at A (drop m d) m a in
    let r : mid_of m (length d1 - m) d1 ≡ drop m d =
    take_all (length d1 - m) (drop m d1) (simp length-drop (omega arith)) ∙ ap (drop m) e ∙ drop_at A (drop m d) m a in
    let p : drop (length d1 - m) (drop m d1) ≡ [] = drop_of_length-le (drop m d1) {i = length d1 - m} (simp length-drop (omega arith)) in
    let b : length B ≤ length (drop m d) = rw r at v.fits in
    record {
      fits = simp (length-append, a) (omega (arith, simp length-drop at b));
      is = rw (t, p, v.is, r, drop-drop, append-nil, ← append_assoc, length-append, a);
    }

-- the bytes that `to_be_bytes` gives
pub bytes_be : (w n : ℕ) → bytes_of w n ≡ bytes_high_first w n
unfolding bytes_of
bytes_be zero n = refl
bytes_be (suc zero) n = rw div-one
bytes_be (suc (suc w)) n = ap (λ (l : List ℕ). n / 256 ^ suc w % 256 ∷ l) (bytes_be (suc w) n)

-- they were copied to the front
pub wrote_number : (w n : ℕ) {d l : List ℕ} → w ≤ length d → l ≡ bytes_high_first w n ++ drop w d → Wrote (bytes_of w n) d l
wrote_number w n h e = record { fits = rw length_bytes h; is = rw (length_bytes, bytes_be) e }

-- stores of one byte each, from the first on
pub wrote_sets : (A d : List ℕ) → length A ≤ length d → Wrote A d (sets d 0 A)
wrote_sets A d h = record { fits = h; is = rw (sets-eq A d 0 (omega arith), zero-add) }

-- a whole slice copied, as `bytes::copy` says it
pub wrote_copy : (v d l : List ℕ) → length v ≤ length d → l ≡ take (length v) v ++ drop (length v) d → Wrote v d l
wrote_copy v d l h e = record { fits = h; is = rw (take-length v) at e }

-- zeros, one by one
pub wrote_fill : (i n : ℕ) (d l : List ℕ) → i ≡ n → n ≤ length d → l ≡ replicate i 0 ++ drop i d → Wrote (replicate n 0) d l
wrote_fill i n d l e h f = record { fits = rw length-replicate h; is = rw length-replicate (rw e at f) }

pub bytes_one : (n : ℕ) → n < 256 → bytes_of 1 n ≡ n ∷ []
unfolding bytes_of
bytes_one n h = ap (λ (x : ℕ). x ∷ []) (rw div-one (mod-eq_of_lt h))

pub bytes_two : (n : ℕ) → n < 65536 → bytes_of 2 n ≡ n / 256 ∷ n % 256 ∷ []
unfolding bytes_of
bytes_two n h = ap₂ (λ (x y : ℕ). x ∷ y ∷ []) (omega arith) (rw div-one)

-- a number written as its upper and its lower half
pub bytes_halves : (w n : ℕ) → bytes_of w (n / 256 ^ w) ++ bytes_of w (n % 256 ^ w) ≡ bytes_of (w + w) n
bytes_halves w n = rw (bytes_mod, bytes_add)

-- ---- a part

pub part_within : (s : List ℕ) (start n : ℕ) → start + n ≤ length s → part_of s start n ≡ take n (drop start s)
unfolding part_of
part_within s start n h = rw (le-leb (start + n) (length s) h)

pub part_outside : (s : List ℕ) (start n : ℕ) → length s < start + n → part_of s start n ≡ []
unfolding part_of
part_outside s start n h = rw (lt-leb (start + n) (length s) h)

-- a write leaves the length
pub wrote_length : {A d l : List ℕ} → Wrote A d l → length l ≡ length d
wrote_length {A} {d} {l} w = ap length w.is ∙ rw (length-append, length-drop) (omega (arith, w.fits))

-- ---- a field that is XORed with a key, written and read, at every width
pow_bits : (w : ℕ) → 256 ^ w ≡ 2 ^ (w * 8)
pow_bits zero = refl
pow_bits (suc w) = rw (pow-suc, pow_bits w, suc-mul, lib.Pow.pow-add 2 (w * 8) 8)

pub xor_lt : (w n key : ℕ) → n < 256 ^ w → key < 256 ^ w → bit_xor n key < 256 ^ w
xor_lt w n key h k = rw pow_bits (lib.Bits.xor_lt (w * 8) n key (rw pow_bits at h) (rw pow_bits at k))

pub xor_written : (w n key : ℕ) (r : List ℕ) → n < 256 ^ w → key < 256 ^ w
    → bit_xor (num (bytes_of w (bit_xor n key) ++ r) 0 w) key ≡ n
xor_written w n key r h k = rw (num-written w (bit_xor n key) r (xor_lt w n key h k)) (xor_twice n key)
