-- What the functions over the lent slots answer.
use Rattle.std.specs.Prelude.{ℕ, zero, suc, Bool, not, List, [], ◌∷◌, get_or}
use Rattle.choice.specs.Choice.{pick}
use Rattle.slot.specs.declared.Allocation.{Allocation}
use Rattle.slot.specs.declared.Slot.{Slot}
use Rattle.slot.specs.Slot.{fresh_slot, live_allocation}

-- slot k of the list, and past its end a fresh one
abbrev pub slot_at : List Slot → ℕ → Slot
slot_at l k = get_or l k fresh_slot

-- a test of an allocation, as one of the slot that it is in
abbrev pub in_slot : (Allocation → Bool) → Slot → Bool
in_slot test slot = test slot.allocation

-- how many entries of a list pass a test
unfoldable pub count : {A : Type 0} → (A → Bool) → List A → ℕ
count passes [] = zero
count passes (x ∷ l) = pick (passes x) (suc (count passes l)) (count passes l)

-- a 'slot that isn't live'
abbrev pub lapsed : ℕ → Allocation → Bool
lapsed time allocation = not (live_allocation time allocation)
