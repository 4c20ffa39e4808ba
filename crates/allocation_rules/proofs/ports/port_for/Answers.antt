use Prim.Native.Nat.{◌+◌}
use native.Mathlib.Omega.{arith}
use mathlib.Core.Path.{ap, sym, ◌∙◌}
use Rattle.allocation_rules.specs.Allocations.{port_for}
use Rattle.allocation_rules.proofs.Laws.{tried_none, tried_more, tried_free, tried_all}
use Rattle.allocation_rules.proofs.ports.port_for.Goals as goal

pub loop-i-init : goal.loop-i-init
unfolding port_for
loop-i-init c = tried_none _ _

pub returns-then-not-taken : goal.returns-then-not-taken
unfolding port_for
returns-then-not-taken c = ap (◌+◌ 49152) (tried_free c.loop-i.invariant c.loop-i-test.true (omega arith) (sym c.is_held-taken.ensures ∙ c.if-not-taken.true))

pub loop-i-preserved : goal.loop-i-preserved
unfolding port_for
loop-i-preserved c = tried_more c.loop-i.invariant c.loop-i-test.true (omega arith) (sym c.is_held-taken.ensures ∙ c.if-not-taken.false)

pub returns : goal.returns
unfolding port_for
returns c = ap (◌+◌ 49152) (tried_all c.loop-i.invariant c.loop-i-test.false)
