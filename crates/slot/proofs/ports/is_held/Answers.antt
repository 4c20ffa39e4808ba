use mathlib.Core.Path.{sym, ◌∙◌}
use native.Mathlib.Omega.{arith}
use Rattle.slot.proofs.Bits.{low_is, high_is}
use Rattle.slot.proofs.ports.is_held.Goals as goal

pub returns-then-k-lt64 : goal.returns-then-k-lt64
returns-then-k-lt64 c = c.bit_at.ensures ∙ sym (low_is c.args.ports c.args.k (omega arith))

pub returns : goal.returns
returns c = c.bit_at-2.ensures ∙ sym (high_is c.args.ports c.args.k (omega arith))
