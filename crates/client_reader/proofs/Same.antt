-- The comparison of what was written with the bytes.
use Prim.Native.Nat.{ℕ}
use mathlib.Core.Path.{◌≡◌, refl, sym, ap, ap₂, ◌∙◌}
use mathlib.Core.List.{List, [], ◌∷◌}
use mathlib.Core.Bool.{Bool, true, false, false≢true}
use lib.ListN.{length, take, drop}
use lib.Seq.{take_at}
use borrow.Author.Tests.{eqb-true, eq-eqb}
use Rattle.choice.proofs.Laws.{both_parts, both_true}
use Rattle.messages.specs.Inner.{Sent}
use Rattle.std.specs.Prelude.{Option, Some}
use Rattle.std.specs.Bool.{then_some}
use Rattle.client_reader.specs.declared.Message.{Message}
use Rattle.client_reader.specs.Fields.{written}
use Rattle.client_reader.specs.Inner.{when, same_bytes, checked}

-- ---- The test of equality says equality

pub bytes_same : (x y : List ℕ) → same_bytes x y ≡ true → x ≡ y
unfolding same_bytes
bytes_same [] [] e = refl
bytes_same [] (b ∷ y) e = absurd (false≢true e)
bytes_same (a ∷ x) [] e = absurd (false≢true e)
bytes_same (a ∷ x) (b ∷ y) e =
    let p = both_parts _ _ e in
    ap₂ (λ (n : ℕ) (l : List ℕ). n ∷ l) (eqb-true a b p.0) (bytes_same x y p.1)

pub same_bytes_lem : (x : List ℕ) → same_bytes x x ≡ true
unfolding same_bytes
same_bytes_lem [] = refl
same_bytes_lem (a ∷ x) = both_true _ _ (eq-eqb a a refl) (same_bytes_lem x)

-- r is true exactly where x and y are the same, as `check::same` says it
abbrev pub Tells : Bool → List ℕ → List ℕ → Type 0
Tells r x y = (r ≡ true → x ≡ y) × (x ≡ y → r ≡ true)

pub is_same : (r : Bool) (x y : List ℕ) → Tells r x y → r ≡ same_bytes x y
is_same true x y h = sym (rw (h.0 refl) (same_bytes_lem y))
is_same false x y h = go (same_bytes x y) refl
  where
    go : (b : Bool) → same_bytes x y ≡ b → false ≡ b
    go true e = h.1 (bytes_same x y e)
    go false e = refl

-- ---- The message that was written stands at the front of the buffer
module _ {A d l : List ℕ} {n : ℕ} (w : Sent A d l n) where
  front : take n l ≡ A
  front = rw w.size (ap (take (length A)) w.wrote.is ∙ take_at A (drop (length A) d) (length A) refl)

  pub front_size : n ≡ length (take n l)
  front_size = w.size ∙ ap length (sym front)

  front_same : (r : Bool) (s : List ℕ) → Tells r (take n l) s → r ≡ same_bytes A s
  front_same r s h = is_same r (take n l) s h ∙ ap (λ (x : List ℕ). same_bytes x s) front

-- ---- A message that was tested

pub checked_if : (m : Message) (s : List ℕ) {x : Option Message} {r : Bool} → x ≡ then_some r m → r ≡ same_bytes (written m s) s → x ≡ checked (Some m) s
unfolding checked
checked_if m s {r = r} e h = e ∙ go r ∙ ap (λ (b : Bool). when b (Some m)) h
  where
    go : (b : Bool) → then_some b m ≡ when b (Some m)
    go true = refl
    go false = refl

-- m was written, and r is the comparison
pub checked_made : (m : Message) (s : List ℕ) {x : Option Message} {d l : List ℕ} {n : ℕ} (r : Bool) → x ≡ then_some r m → Sent (written m s) d l n
    → Tells r (take n l) s → x ≡ checked (Some m) s
checked_made m s r e w h = checked_if m s e (front_same w r s h)
