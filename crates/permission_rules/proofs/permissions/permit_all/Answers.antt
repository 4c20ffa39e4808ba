use mathlib.Core.Path.{sym, ◌∙◌}
use Rattle.permission_rules.proofs.Laws.{permit_end, permit_full, permit_on}
use Rattle.permission_rules.proofs.permissions.permit_all.Goals as goal

pub returns-in_err-done : goal.returns-in_err-done
returns-in_err-done c = c.from_residual.ensures ∙ sym (c.loop-value.invariant ∙ permit_full _ c.in-Some.ensures.steps _ _ (sym c.permit_peer.ensures ∙ c.in_err-done.was))

pub loop-value-preserved : goal.loop-value-preserved
loop-value-preserved c = c.loop-value.invariant ∙ permit_on _ c.in-Some.ensures.steps _ _ (sym c.permit_peer.ensures ∙ c.in_ok-done.was)

pub returns : goal.returns
returns c = sym (c.loop-value.invariant ∙ permit_end _ c.in-None.ensures.steps.0 _ _)
