use Rattle.state.proofs.fresh_bookkeeping.Goals as goal

pub returns : goal.returns
returns c = rw (← c.none_denied-denied.ensures)
