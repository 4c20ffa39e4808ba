use mathlib.Core.Path.{refl, sym, ◌∙◌}
use Rattle.denied.specs.Tree.{with_prefix}
use Rattle.denied.proofs.Laws.{one_more, grow_end, grow_child, grow_new, grow_full}
use native.Mathlib.Omega.{arith}
use Rattle.denied.proofs.tree.with_prefix.Goals as goal

pub loop-bits-init : goal.loop-bits-init
unfolding with_prefix
loop-bits-init c = record { is = refl; low = omega arith; few = omega arith }

pub loop-bits-preserved-then-is_child : goal.loop-bits-preserved-then-is_child
loop-bits-preserved-then-is_child c = grow_child c.loop-bits.invariant (one_more (omega (arith, c.loop-bits-test.true))) c.bit_of-bit.ensures.0 c.child_of-child.ensures (sym c.is_child.ensures ∙ c.if-is_child.true)

pub returns-then-count-ge512 : goal.returns-then-count-ge512
returns-then-count-ge512 c = grow_full c.loop-bits.invariant (one_more (omega (arith, c.loop-bits-test.true))) c.bit_of-bit.ensures.0 c.child_of-child.ensures (sym c.is_child.ensures ∙ c.if-is_child.false) (omega (arith, c.if-count-ge512.true))

pub loop-bits-preserved : goal.loop-bits-preserved
loop-bits-preserved c = grow_new c.loop-bits.invariant (one_more (omega (arith, c.loop-bits-test.true))) c.bit_of-bit.ensures.0 c.child_of-child.ensures (sym c.is_child.ensures ∙ c.if-is_child.false) (omega (arith, c.if-count-ge512.false))

pub returns : goal.returns
returns c = grow_end c.loop-bits.invariant (omega (arith, c.loop-bits-test.false))
