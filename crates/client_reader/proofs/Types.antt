-- The types that a 420 carries: read one by one, read back from their bytes, and all below a bound.
use Prim.Native.Nat.{ℕ, zero, suc, ◌+◌, ◌-◌, ◌*◌, ◌≤◌, ◌<◌}
use mathlib.Core.Path.{◌≡◌, refl, sym, ap, ap₂, ◌∙◌}
use mathlib.Core.List.{List, [], ◌∷◌, ◌++◌, append_assoc}
use mathlib.Core.Bool.{true}
use lib.ListN.{length, get_or, take, replicate, set}
use lib.Seq.{set_at}
use lib.Dec.{ltb}
use native.Mathlib.Omega.{arith}
use native.Mathlib.Nat.{add_assoc, not-suc-le-zero}
use native.Mathlib.Numerals.{add-one}
use borrow.Author.Tests.{lt-ltb, ltb-true}
use Rattle.std.specs.List.{list_all}
use Rattle.wire.specs.Wire.{num, bytes_of}
use Rattle.wire.proofs.Laws.{num-written, num-append}
use Rattle.choice.specs.Choice.{both}
use Rattle.choice.proofs.Laws.{both_parts, both_true}
use Rattle.messages.specs.Messages.{types_bytes}
use Rattle.client_reader.specs.Inner.{types_from, all_below}

-- ---- Read one by one

pub length_types_from : (s : List ℕ) (at count : ℕ) → length (types_from s at count) ≡ count
unfolding types_from
length_types_from s at zero = refl
length_types_from s at (suc count) = ap suc (length_types_from s (at + 2) count)

types_more : (s : List ℕ) (at count : ℕ) → types_from s at (suc count) ≡ types_from s at count ++ num s (at + count * 2) 2 ∷ []
unfolding types_from
types_more s at zero = let e : at ≡ at + 0 * 2 = omega arith in rw (← e)
types_more s at (suc count) =
    let e : at + 2 + count * 2 ≡ at + suc count * 2 = omega arith in
    ap (λ (rest : List ℕ). num s at 2 ∷ rest) (rw e at (types_more s (at + 2) count))

-- the first i of count, and then one more
pub types_next : (s types : List ℕ) (i count : ℕ) → types ≡ types_from s 32 i ++ replicate (count - i) 0 → i < count
    → set types i (num s (32 + i * 2) 2) ≡ types_from s 32 (i + 1) ++ replicate (count - (i + 1)) 0
types_next s types i count e h =
    let t = num s (32 + i * 2) 2 in
    let z : count - i ≡ suc (count - suc i) = omega arith in
    rw add-one
    (ap (λ (l : List ℕ). set l i t) (e ∙ ap (λ (k : ℕ). types_from s 32 i ++ replicate k 0) z)
    ∙ set_at (types_from s 32 i) 0 (replicate (count - suc i) 0) t i (length_types_from s 32 i)
    ∙ sym (rw (types_more s 32 i) (append_assoc (types_from s 32 i) (t ∷ []) (replicate (count - suc i) 0))))

-- ---- Read back

pub types_append : (p s : List ℕ) (at count : ℕ) → types_from (p ++ s) (length p + at) count ≡ types_from s at count
unfolding types_from
types_append p s at zero = refl
types_append p s at (suc count) = rw (num-append p s at 2, add_assoc, types_append p s (at + 2) count)

pub types_back : (types : List ℕ) (count : ℕ) (r : List ℕ) → count ≤ length types → ((i : ℕ) → get_or types i 0 < 0x8000)
    → types_from (types_bytes (take count types) ++ r) 0 count ≡ take count types
unfolding types_from types_bytes bytes_of
types_back types zero r l h = refl
types_back [] (suc count) r l h = absurd (not-suc-le-zero l)
types_back (t ∷ types) (suc count) r l h =
    ap₂ (λ (x : ℕ) (rest : List ℕ). x ∷ rest)
    (rw append_assoc (num-written 2 t (types_bytes (take count types) ++ r) (omega (arith, h 0))))
    (types_append (bytes_of 2 t) (types_bytes (take count types) ++ r) 0 count
    ∙ types_back types count r (omega arith) (λ i. h (suc i)))

-- ---- All below a bound

pub below_all : (bound : ℕ) (types : List ℕ) → ((i : ℕ) → get_or types i 0 < bound) → all_below bound types ≡ true
unfolding all_below
below_all bound [] h = refl
below_all bound (t ∷ types) h = both_true _ _ (lt-ltb t bound (h 0)) (below_all bound types (λ i. h (suc i)))

pub all_below_lem : (bound : ℕ) (types : List ℕ) → 0 < bound → all_below bound types ≡ true → (i : ℕ) → get_or types i 0 < bound
unfolding all_below
all_below_lem bound [] p e i = p
all_below_lem bound (t ∷ types) p e zero = ltb-true t bound (both_parts _ _ e).0
all_below_lem bound (t ∷ types) p e (suc i) = all_below_lem bound types p (both_parts _ _ e).1 i

-- std's test of each
pub all_is : (bound : ℕ) (types : List ℕ) → list_all (λ (t : ℕ). ltb t bound) types ≡ all_below bound types
unfolding all_below both
all_is bound [] = refl
all_is bound (t ∷ types) = rw (all_is bound types)
