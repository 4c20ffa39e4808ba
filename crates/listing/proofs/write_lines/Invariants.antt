-- The loop keeps that the lines of the slots below k are put.
use Rattle.listing.specs.Listing.{slot_lines}
use Rattle.listing.proofs.Laws.{Putting}
use Rattle.listing.proofs.write_lines.Given as goal

abbrev pub invariant-loop-k : goal.invariant-loop-k
invariant-loop-k l = Putting (slot_lines l.clock) l.slots 0 l.initial.output l.output l.place l.k
