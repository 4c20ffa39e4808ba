use mathlib.Core.Path.{sym, ap, ◌∙◌}
use lib.ListN.{length}
use native.Mathlib.Omega.{arith}
use Rattle.stun.proofs.Laws.{read_over, read_stop, read_one}
use Rattle.stun.proofs.message.AttributesIterator.next.Goals as goal

pub returns-then-is_integrity-clause-steps : goal.returns-then-is_integrity-clause-steps
returns-then-is_integrity-clause-steps c =
    let none = read_stop _ _ (sym c.step_at.ensures ∙ c.in-One.is) (sym c.is_integrity.ensures ∙ c.if-is_integrity.true) in
    (none, none)

pub returns-else-is_integrity-clause-steps : goal.returns-else-is_integrity-clause-steps
returns-else-is_integrity-clause-steps c = read_one _ _ (sym c.step_at.ensures ∙ c.in-One.is) (sym c.is_integrity.ensures ∙ c.if-is_integrity.false)

pub returns-else-is_integrity-clause-goes : goal.returns-else-is_integrity-clause-goes
returns-else-is_integrity-clause-goes c =
    let one = read_one _ _ (sym c.step_at.ensures ∙ c.in-One.is) (sym c.is_integrity.ensures ∙ c.if-is_integrity.false) in
    let shorter = ap length one in
    omega arith

pub returns-in-End-clause-steps : goal.returns-in-End-clause-steps
returns-in-End-clause-steps c =
    let none = read_over _ _ (rw c.step_at.ensures at c.in-End.is) in
    (none, none)
