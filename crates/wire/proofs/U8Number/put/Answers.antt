use mathlib.Core.List.{[], ◌∷◌}
use native.Mathlib.Omega.{arith}
use Rattle.wire.proofs.Laws.{bytes_one, wrote_sets}
use Rattle.wire.proofs.U8Number.put.Goals as goal

pub returns : goal.returns
returns c = rw (bytes_one c.args.self (omega arith)) (wrote_sets (c.args.self ∷ []) c.args.out.now c.requires)
