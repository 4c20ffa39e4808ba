-- There is always a port to give: 128 ports, and fewer slots.
use Prim.Native.Nat.{ℕ, zero, suc, ◌+◌, ◌<◌, ◌≤◌}
use mathlib.Core.Path.{◌≡◌, refl, sym, ◌∙◌}
use mathlib.Core.Bool.{Bool, true, false}
use mathlib.Core.List.{List, [], ◌∷◌}
use native.Mathlib.Omega.{arith}
use native.Mathlib.Nat.{zero-add}
use lib.ListN.{length}
use borrow.Author.Tests.{eqb-true}
use Rattle.choice.specs.Choice.{pick}
use Rattle.choice.proofs.Laws.{both_parts}
use Rattle.slot.specs.declared.Slot.{Slot}
use Rattle.std.specs.Prelude.{Option, Some, None}
use Rattle.slot.specs.Search.{further, find, has}
use Rattle.slot.specs.Slot.{holds_port}
use Rattle.table.specs.Table.{in_slot}
use Rattle.allocation_rules.specs.Allocations.{first_free, port_for}
use Rattle.allocation_rules.proofs.FreePort.{held_count, free-found, first_free_below}
use Rattle.decisions.specs.Decisions.{ports_held}
use Rattle.decisions.proofs.Laws.{length_held, held_at}
use Rattle.history.proofs.Tests.{has_not}

abbrev held_by : ℕ → ℕ → Slot → Bool
held_by t k slot = in_slot (holds_port t (49152 + k)) slot

-- one slot more
has_more : (b : Bool) (f : Option ℕ) → has (pick b (Some zero) (further f)) ≡ pick b true (has f)
has_more true f = refl
has_more false (Some i) = refl
has_more false None = refl

held_more : (t k : ℕ) (x : Slot) (l : List Slot) → has (find (held_by t k) (x ∷ l)) ≡ pick (held_by t k x) true (has (find (held_by t k) l))
unfolding find
held_more t k x l = has_more (held_by t k x) (find (held_by t k) l)

-- a slot holds one port only
port-of : (t k : ℕ) (x : Slot) → held_by t k x ≡ true → x.allocation.port ≡ 49152 + k
unfolding holds_port
port-of t k x e = eqb-true _ _ (both_parts _ _ e).1

misses : (t k : ℕ) (x : Slot) → x.allocation.port < 49152 + k → held_by t k x ≡ false
misses t k x h = go (held_by t k x) refl
  where
    go : (b : Bool) → held_by t k x ≡ b → b ≡ false
    go true e = let y : ⊥ = omega (arith, port-of t k x e) in absurd y
    go false e = refl

module _ (t : ℕ) (x : Slot) (l : List Slot) where
  none_of : (k n : ℕ) → x.allocation.port < 49152 + k → held_count (ports_held t (x ∷ l) k n) ≡ held_count (ports_held t l k n)
  unfolding ports_held held_count
  none_of k zero h = refl
  none_of k (suc n) h = rw (held_more t k x l, misses t k x h, none_of (suc k) n (omega arith))

  one_of : (k n : ℕ) → held_count (ports_held t (x ∷ l) k n) ≤ suc (held_count (ports_held t l k n))
  unfolding ports_held held_count
  one_of k zero = omega arith
  one_of k (suc n) = rw (held_more t k x l) (go (held_by t k x) refl (has (find (held_by t k) l)) (one_of (suc k) n))
    where
      Rest : List Slot → ℕ
      Rest r = held_count (ports_held t r (suc k) n)

      go : (b : Bool) → held_by t k x ≡ b → (c : Bool) → Rest (x ∷ l) ≤ suc (Rest l)
          → pick (pick b true c) (suc (Rest (x ∷ l))) (Rest (x ∷ l)) ≤ suc (pick c (suc (Rest l)) (Rest l))
      go true e true ih = omega arith
      go true e false ih = omega (arith, none_of (suc k) n (omega (arith, port-of t k x e)))
      go false e true ih = omega arith
      go false e false ih = ih

none_held : (t k n : ℕ) → held_count (ports_held t [] k n) ≡ 0
unfolding ports_held held_count find
none_held t k zero = refl
none_held t k (suc n) = none_held t (suc k) n

few : (t : ℕ) (l : List Slot) (k n : ℕ) → held_count (ports_held t l k n) ≤ length l
few t [] k n = let e = none_held t k n in omega arith
few t (x ∷ l) k n = let r = one_of t x l k n in let q = few t l k n in omega arith

-- the port that a new allocation gets is one that no live slot holds
pub port-free : (t start : ℕ) (l : List Slot) → length l ≡ 64 → find (in_slot (holds_port t (port_for (ports_held t l 0 128) start))) l ≡ None
unfolding port_for
port-free t start l full =
    let held = ports_held t l 0 128 in
    let k = first_free 128 held start in
    let free = free-found held start (length_held t l 0 128) (let f = few t l 0 128 in omega arith) in
    has_not _ (sym (rw zero-add at (held_at t l 0 128 k (first_free_below 128 held start))) ∙ free)

pub port-fits : (held : List Bool) (start : ℕ) → port_for held start < 65536
unfolding port_for
port-fits held start = let h = first_free_below 128 held start in omega arith
