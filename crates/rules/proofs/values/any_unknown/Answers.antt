use Rattle.stun.specs.Inner.{unknowns}
use Rattle.rules.specs.Values.{any_unknown}
use Rattle.rules.proofs.values.any_unknown.Goals as goal

pub returns : goal.returns
unfolding any_unknown unknowns
returns c = rw c.unknown_types-unknown.ensures
