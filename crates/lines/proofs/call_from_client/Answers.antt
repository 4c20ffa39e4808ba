use Rattle.lines.specs.Lines.{call_from_client}
use mathlib.Core.Path.{refl}
use Rattle.lines.proofs.call_from_client.Goals as goal

pub returns : goal.returns
unfolding call_from_client
returns c = refl
