use mathlib.Core.Path.{◌∙◌}
use Rattle.interface.proofs.Laws.{part_first}
use Rattle.interface.proofs.sending.what_to_send.Goals as goal

pub returns-in-ToClient : goal.returns-in-ToClient
returns-in-ToClient c = rw c.in-ToClient.is (c.part.ensures ∙ part_first _ _)

pub returns-in-ToPeer : goal.returns-in-ToPeer
returns-in-ToPeer c = rw c.in-ToPeer.is c.part-in-ToPeer.ensures
