use mathlib.Core.Path.{sym, ◌∙◌}
use Rattle.permission_rules.proofs.Laws.{bound-none, bound-some}
use Rattle.permission_rules.proofs.channels.bind_both.Goals as goal

pub returns-in_err-permitted : goal.returns-in_err-permitted
returns-in_err-permitted c = c.from_residual.ensures ∙ sym (bound-none c.args.time c.args.number c.args.peer c.args.slot.now (sym c.permit.ensures ∙ c.in_err-permitted.was))

pub returns : goal.returns
returns c = c.bind.ensures ∙ sym (bound-some c.args.time c.args.number c.args.peer c.args.slot.now (sym c.permit.ensures ∙ c.in_ok-permitted.was))
