use borrow.Author.Tests.{eq-eqb, ne_eqb}
use Rattle.allocation_rules.specs.Allocations.{refreshed}
use Rattle.allocation_rules.proofs.refreshed.Goals as goal

pub returns-then-seconds-eq0 : goal.returns-then-seconds-eq0
unfolding refreshed
returns-then-seconds-eq0 c = rw (eq-eqb _ 0 c.if-seconds-eq0.true, ← c.fresh_slot.ensures)

pub returns : goal.returns
unfolding refreshed
returns c = rw (ne_eqb _ 0 c.if-seconds-eq0.false, ← c.renewed.ensures)
