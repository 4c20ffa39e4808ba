use Rattle.lines.specs.Lines.{call_from_peer}
use mathlib.Core.Path.{refl}
use Rattle.lines.proofs.call_from_peer.Goals as goal

pub returns : goal.returns
unfolding call_from_peer
returns c = refl
