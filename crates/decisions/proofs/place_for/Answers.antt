use Rattle.decisions.proofs.place_for.Goals as goal

pub returns-then-allocates : goal.returns-then-allocates
returns-then-allocates c = rw (← c.allocates.ensures, c.if-allocates.true, ← c.place_of.ensures)

pub returns : goal.returns
returns c = rw (← c.allocates.ensures, c.if-allocates.false, ← c.place_of-2.ensures)
