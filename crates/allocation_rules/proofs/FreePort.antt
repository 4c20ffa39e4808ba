-- The search for a port finds a free one where fewer than 128 are held.
use Prim.Native.Nat.{ℕ, zero, suc, ◌+◌, ◌-◌, ◌%◌, ◌<◌, suc-le-suc}
use mathlib.Core.Path.{◌≡◌, refl}
use mathlib.Core.Logic.{◌⊎◌, inl, inr, ⊎_elim}
use mathlib.Core.Bool.{Bool, true, false}
use mathlib.Core.List.{List, [], ◌∷◌}
use native.Mathlib.Nat.{not-suc-le-zero}
use native.Mathlib.Omega.{arith}
use lib.ListN.{length, get_or}
use Rattle.choice.specs.Choice.{pick}
use Rattle.allocation_rules.specs.Allocations.{first_free}

-- how many are held
unfoldable pub held_count : List Bool → ℕ
held_count [] = 0
held_count (b ∷ l) = pick b (suc (held_count l)) (held_count l)

-- one is free, or all that were tried are held
free-or-held : (held : List Bool) (tries k : ℕ)
    → (get_or held (first_free tries held k) false ≡ false) ⊎ ((j : ℕ) → j < tries → get_or held ((k + j) % 128) false ≡ true)
unfolding first_free
free-or-held held zero k = inr (λ j h. absurd (not-suc-le-zero h))
free-or-held held (suc tries) k = go (get_or held (k % 128) false) refl (free-or-held held tries (suc k))
  where
    more : get_or held (k % 128) false ≡ true → ((j : ℕ) → j < tries → get_or held ((suc k + j) % 128) false ≡ true) → (j : ℕ) → j < suc tries
        → get_or held ((k + j) % 128) false ≡ true
    more e all zero h = let z : k + 0 ≡ k = omega arith in rw z e
    more e all (suc j) h = let z : k + suc j ≡ suc k + j = omega arith in rw z (all j (omega arith))

    go : (b : Bool) → get_or held (k % 128) false ≡ b
        → (get_or held (first_free tries held (suc k)) false ≡ false) ⊎ ((j : ℕ) → j < tries → get_or held ((suc k + j) % 128) false ≡ true)
        → (get_or held (pick b (first_free tries held (suc k)) (k % 128)) false ≡ false) ⊎ ((j : ℕ) → j < suc tries → get_or held ((k + j) % 128) false ≡ true)
    go true e (inl p) = inl p
    go true e (inr p) = inr (more e p)
    go false e p = inl e

count_all : (l : List Bool) → ((j : ℕ) → j < length l → get_or l j false ≡ true) → held_count l ≡ length l
unfolding held_count
count_all [] f = refl
count_all (b ∷ l) f = rw (f 0 (omega arith), count_all l (λ j h. f (suc j) (suc-le-suc h)))

-- with fewer than 128 held, the port chosen is free
pub free-found : (held : List Bool) (start : ℕ) → length held ≡ 128 → held_count held < 128 → get_or held (first_free 128 held start) false ≡ false
free-found held start n c = ⊎_elim (λ p. p) (λ all. absurd (full all)) (free-or-held held 128 start)
  where
    full : ((j : ℕ) → j < 128 → get_or held ((start + j) % 128) false ≡ true) → ⊥
    full all =
        let e : held_count held ≡ length held = count_all held (λ j h.
        let k : ℕ = (j + 128 - start % 128) % 128 in
        let r : (start + k) % 128 ≡ j = omega arith in
        rw r at (all k (omega arith))) in
        omega arith

-- it is one of the 128
pub first_free_below : (tries : ℕ) (held : List Bool) (k : ℕ) → first_free tries held k < 128
unfolding first_free
first_free_below zero held k = omega arith
first_free_below (suc tries) held k = go (get_or held (k % 128) false) (first_free_below tries held (suc k))
  where
    go : (b : Bool) → first_free tries held (suc k) < 128 → pick b (first_free tries held (suc k)) (k % 128) < 128
    go true h = h
    go false h = omega arith
