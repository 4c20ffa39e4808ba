-- The laws of `pick` and `both`, and the law that the last arm of a `match` on a number cites.
use Prim.Native.Nat.{ℕ}
use mathlib.Core.Path.{◌≡◌, refl}
use mathlib.Core.Bool.{Bool, true, false, ◌&&◌, false≢true}
use mathlib.Core.List.{List, [], ◌∷◌}
use borrow.Author.Tests.{ne_eqb}
use Rattle.choice.specs.Choice.{pick, both, lookup}

-- what holds of both values holds of the one that a test picks
pub chosen : {X : Type 0} (P : X → Type 0) (b : Bool) {x y : X} → (b ≡ true → P x) → (b ≡ false → P y) → P (pick b x y)
chosen P true f g = f refl
chosen P false f g = g refl

pub both_parts : (a b : Bool) → both a b ≡ true → (a ≡ true) × (b ≡ true)
unfolding both
both_parts true b e = (refl, e)
both_parts false b e = absurd (false≢true e)

pub both_true : (a b : Bool) → a ≡ true → b ≡ true → both a b ≡ true
unfolding both
both_true true b p q = q
both_true false b p q = p

pub both_no : (a : Bool) → both a false ≡ false
unfolding both
both_no true = refl
both_no false = refl

pub both_yes : (a : Bool) → both a true ≡ a
unfolding both
both_yes true = refl
both_yes false = refl

-- the language's `&&` and `&` on tests
pub and_both : (a b : Bool) → (a && b) ≡ both a b
unfolding both
and_both true b = refl
and_both false b = refl

-- what `_` knows after arms of one number each: a tuple nested to the left
abbrev pub NoneAfter : {X : Type 0} → Type 0 → ℕ → List (ℕ × X) → Type 0
NoneAfter R n [] = R
NoneAfter R n (e ∷ t) = NoneAfter (R × (n ≡ e.0 → ⊥)) n t

none_before : {X : Type 0} (R : Type 0) (n : ℕ) (t : List (ℕ × X)) → NoneAfter R n t → R
none_before R n [] r = r
none_before R n (e ∷ t) r = (none_before (R × (n ≡ e.0 → ⊥)) n t r).0

none_look : {X : Type 0} (R : Type 0) (n : ℕ) (t : List (ℕ × X)) (d : X) → NoneAfter R n t → lookup n t d ≡ d
none_look R n [] d r = refl
none_look R n (e ∷ t) d r =
    rw (ne_eqb n e.0 (none_before (R × (n ≡ e.0 → ⊥)) n t r).1) (none_look (R × (n ≡ e.0 → ⊥)) n t d r)

pub lookup-none : {X : Type 0} (n : ℕ) (t : List (ℕ × X)) (d : X) → NoneAfter Unit n t → lookup n t d ≡ d
lookup-none n t d r = none_look Unit n t d r
