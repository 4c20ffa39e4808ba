use mathlib.Core.Path.{refl, ◌∙◌, sym}
use native.Mathlib.Omega.{arith}
use Rattle.stun.proofs.Laws.{walk_by, step_on, fit_over}
use Rattle.stun.proofs.message.attributes_fit.Goals as goal

pub loop-next-init : goal.loop-next-init
loop-next-init c = refl

pub loop-next-smaller : goal.loop-next-smaller
loop-next-smaller c = let l = step_on _ _ (sym c.step_at.ensures ∙ c.in-One.is) in omega arith

pub loop-next-preserved : goal.loop-next-preserved
loop-next-preserved c = c.loop-next.invariant ∙ walk_by _ _ _ _ _ (sym c.step_at.ensures ∙ c.in-One.is)

pub returns : goal.returns
returns c = sym (c.loop-next.invariant ∙ fit_over _ _ (λ a x one. c.in_default.not-One a x (c.step_at.ensures ∙ one)))
