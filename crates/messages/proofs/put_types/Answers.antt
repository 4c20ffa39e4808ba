use mathlib.Core.Path.{refl}
use native.Mathlib.Omega.{arith}
use Rattle.wire.proofs.Laws.{wrote_length}
use Rattle.messages.specs.Messages.{types_bytes}
use Rattle.messages.proofs.Laws.{wrote_type}
use Rattle.messages.proofs.put_types.Goals as goal

pub loop-i-init : goal.loop-i-init
unfolding types_bytes
loop-i-init c = (omega arith, record { fits = omega arith; is = refl })

pub put_at-requires : goal.put_at-requires
put_at-requires c = omega (arith, wrote_length c.loop-i.invariant.1)

pub loop-i-preserved : goal.loop-i-preserved
loop-i-preserved c = (omega arith, wrote_type _ c.loop-i.i (omega arith) c.loop-i.invariant.1 c.put_at.ensures)
