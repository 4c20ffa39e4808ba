-- What functions of this crate promise those above it, and each other. No public statement rests on it.
use Rattle.std.specs.Prelude.{ℕ, zero, suc, ◌/◌, ◌%◌, Bool, List, [], ◌∷◌, ◌++◌, eqb, Option, Some, None}
use Rattle.choice.specs.Choice.{pick}
use Rattle.slot.specs.declared.Slot.{Slot}
use Rattle.slot.specs.Slot.{Placed}
use Rattle.slot.specs.declared.ports.Ports.{Ports}

-- the n lowest bits of a word, the lowest first
unfoldable pub bits_of : ℕ → ℕ → List Bool
bits_of zero word = []
bits_of (suc n) word = eqb (word % 2) 1 ∷ bits_of n (word / 2)

-- of each k below 128, whether the port 49152 + k is held
unfoldable pub held_in : Ports → List Bool
held_in ports = bits_of 64 ports.low ++ bits_of 64 ports.high

-- the slot where there is room for the entry, and none where there is not
abbrev pub made : Placed → Option Slot
made placed = pick placed.ok (Some placed.slot) None
