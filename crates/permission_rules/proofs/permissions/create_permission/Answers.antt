use Rattle.permission_rules.specs.Permissions.{create_permission}
use Rattle.rules.proofs.Laws.{written_with, answers_error, answers_accepted}
use Rattle.permission_rules.proofs.permissions.create_permission.Goals as goal

pub returns-in-Err : goal.returns-in-Err
unfolding create_permission
returns-in-Err c = answers_error _ _ _ _ c.permitted.ensures.code c.in-Err.is (rw c.number.ensures.is at c.respond_error.ensures)

pub returns : goal.returns
unfolding create_permission
returns c = rw (← c.transaction_id.ensures) (answers_accepted _ _ _ _ c.permitted.ensures.code c.in-Ok.is (written_with c.in-Ok.ensures.slot c.put_bare_success-len.ensures))
