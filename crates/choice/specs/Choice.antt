-- Choices by tests: one of two values, both of two tests, a test of some member, and what a table has for a number.
use Rattle.std.specs.Prelude.{ℕ, Bool, true, false, List, [], ◌∷◌, eqb}

-- x where the test holds, else y
abbrev pub pick : {X : Type 0} → Bool → X → X → X
pick true x y = x
pick false x y = y

-- whether both hold
unfoldable pub both : Bool → Bool → Bool
both true b = b
both false b = false

-- whether a test holds of some member
unfoldable pub any : {X : Type 0} → (X → Bool) → List X → Bool
any test [] = false
any test (x ∷ rest) = pick (test x) true (any test rest)

-- what a table has for n, or d where it has nothing
abbrev pub lookup : {X : Type 0} → ℕ → List (ℕ × X) → X → X
lookup n [] d = d
lookup n (e ∷ t) d = pick (eqb n e.0) e.1 (lookup n t d)
