use Rattle.client_reader.specs.Inner.{code_of}
use Rattle.client_reader.proofs.responses.code_of.Goals as goal

pub returns : goal.returns
unfolding code_of
returns c = rw (← c.at.ensures, ← c.at-2.ensures)
