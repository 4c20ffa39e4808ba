-- What the functions of this crate promise those above. No public statement rests on it.
use Rattle.std.specs.Prelude.{Bool}
use Rattle.allocation_rules.specs.declared.Capacity.{Capacity}
use Rattle.allocation_rules.specs.Allocations.{Room}

-- what an Allocate is checked against, where `own` says whether the 5-tuple has a live slot
abbrev pub room_in : Capacity → Bool → Room
room_in capacity own = record { own = own; held = capacity.held; free = capacity.free; port = capacity.port }
