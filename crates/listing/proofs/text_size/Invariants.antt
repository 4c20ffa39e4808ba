-- The loop keeps the size of the lines of the slots below k.
use Rattle.listing.specs.Listing.{slot_lines}
use Rattle.listing.proofs.Laws.{Sizing}
use Rattle.listing.proofs.text_size.Given as goal

abbrev pub invariant-loop-k : goal.invariant-loop-k
invariant-loop-k l = Sizing (slot_lines l.clock) 1154 l.slots l.size l.k
