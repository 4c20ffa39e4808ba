-- Laws of a repeat, of the lifetime granted and of the search for a port.
use Prim.Native.Nat.{ℕ, suc, ◌+◌, ◌-◌, ◌%◌, ◌≤◌, ◌<◌, min, max}
use mathlib.Core.Path.{◌≡◌, sym, ap, ◌∙◌}
use mathlib.Core.Bool.{Bool, true, false}
use mathlib.Core.List.{List}
use lib.ListN.{get_or}
use native.Mathlib.Omega.{arith}
use lib.Dec.{eqb}
use Rattle.choice.specs.Choice.{pick}
use Rattle.choice.proofs.Laws.{both_parts}
use Rattle.stun.specs.declared.values.NumberValue.{NumberValue}
use Rattle.stun.specs.declared.values.NumberValue.TheVariants.{Number, WrongLength, Absent}
use Rattle.slot.specs.declared.Slot.{Slot}
use Rattle.rules.specs.declared.requests.ClientCall.{ClientCall}
use Rattle.allocation_rules.specs.Allocations.{repeats, first_free, granted, granted_refresh}

-- ---- A repeat is of a 5-tuple that has a live slot
pub repeats_own : (call : ClientCall) (s : List ℕ) (own : Bool) (slot : Slot) → repeats call s own slot ≡ true → own ≡ true
unfolding repeats
repeats_own call s own slot e = (both_parts _ _ e).0

-- ---- The lifetime granted is 0, or from 600 to 3600
pub granted_small : (v : NumberValue) → granted v ≤ 3600
granted_small (Number n) = omega arith
granted_small WrongLength = omega arith
granted_small Absent = omega arith

pub granted_refresh_small : (v : NumberValue) → granted_refresh v ≤ 3600
granted_refresh_small (Number n) = go (eqb n 0)
  where
    go : (b : Bool) → pick b 0 (max 600 (min n 3600)) ≤ 3600
    go true = omega arith
    go false = omega arith
granted_refresh_small WrongLength = omega arith
granted_refresh_small Absent = omega arith

-- ---- The search for a free port: i are looked at, and all of them are held
pub record Tried (held : List Bool) (start answer i : ℕ) : Type 0 where
  pub is : answer ≡ first_free (128 - i) held (start + i)
  pub le : i ≤ 128

pub tried_none : (held : List Bool) (start : ℕ) → Tried held start (first_free 128 held start) 0
tried_none held start = record { is = ap (first_free 128 held) (let z : start ≡ start + 0 = omega arith in z); le = omega arith }

module _ {held : List Bool} {start answer i : ℕ} (l : Tried held start answer i) where
  told_port : i < 128 → answer ≡ pick (get_or held ((start + i) % 128) false) (first_free (128 - (i + 1)) held (start + (i + 1))) ((start + i) % 128)
  unfolding first_free
  told_port h =
      let e : 128 - i ≡ suc (128 - (i + 1)) = omega arith in
      let n : suc (start + i) ≡ start + (i + 1) = omega arith in
      (rw e at l.is)
      ∙ ap (λ (x : ℕ). pick (get_or held ((start + i) % 128) false) (first_free (128 - (i + 1)) held x) ((start + i) % 128)) n

  module _ {k : ℕ} (h : i < 128) (e : k ≡ (start + i) % 128) where
    pub tried_more : get_or held k false ≡ true → Tried held start answer (i + 1)
    tried_more t = record { is = rw (rw e at t) at (told_port h); le = omega arith }

    pub tried_free : get_or held k false ≡ false → k ≡ answer
    tried_free t = e ∙ sym (rw (rw e at t) at (told_port h))

  pub tried_all : 128 ≤ i → start % 128 ≡ answer
  unfolding first_free
  tried_all h =
      let e : 128 - i ≡ 0 = omega arith in
      let m : start % 128 ≡ (start + i) % 128 = omega arith in
      m ∙ sym (rw e at l.is)
