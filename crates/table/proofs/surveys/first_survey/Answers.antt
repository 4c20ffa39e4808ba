use mathlib.Core.Path.{refl}
use Rattle.slot.specs.Search.{find}
use Rattle.table.specs.Table.{count}
use Rattle.table.proofs.surveys.first_survey.Goals as goal

pub returns : goal.returns
unfolding find count
returns c wanted user = record { own = refl; held = refl; free = refl; ports = λ k h. c.no_ports.ensures k h }
