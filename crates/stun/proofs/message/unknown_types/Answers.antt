use mathlib.Core.Path.{sym, ◌∙◌}
use native.Mathlib.Omega.{arith}
use Rattle.stun.proofs.Laws.{listed_full, listed_end, listed_skip, listed_more}
use Rattle.stun.proofs.message.unknown_types.Goals as goal

pub loop-attribute-preserved-then-is_unknown : goal.loop-attribute-preserved-then-is_unknown
loop-attribute-preserved-then-is_unknown c =
    let few = c.loop-attribute.invariant.few in
    listed_more c.loop-attribute.invariant c.in-Some.ensures.steps (sym c.is_unknown.ensures ∙ c.if-is_unknown.true) (omega arith)

pub loop-attribute-preserved : goal.loop-attribute-preserved
loop-attribute-preserved c =
    listed_skip c.loop-attribute.invariant c.in-Some.ensures.steps (sym c.is_unknown.ensures ∙ c.if-is_unknown.false)

pub returns-in-None : goal.returns-in-None
returns-in-None c = listed_end c.loop-attribute.invariant c.in-None.ensures.steps.0

pub returns-then-count-eq16 : goal.returns-then-count-eq16
returns-then-count-eq16 c = listed_full c.loop-attribute.invariant (omega arith)
