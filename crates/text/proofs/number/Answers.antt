use mathlib.Core.Path.{◌∙◌}
use native.Mathlib.Omega.{arith}
use Rattle.text.proofs.Laws.{number_bad, number_over, number_next, number_end}
use Rattle.text.proofs.number.Goals as goal

pub returns-then-base-d : goal.returns-then-base-d
returns-then-base-d c = number_bad c.loop-c.invariant (omega arith) c.digit_value-d.ensures.0 c.if-base-d.true

pub returns-in_err-checked_mul : goal.returns-in_err-checked_mul
returns-in_err-checked_mul c = c.from_residual.ensures ∙ number_over c.loop-c.invariant (omega arith) c.digit_value-d.ensures.0 c.if-base-d.false (omega (arith, c.in_err-checked_mul.ensures))

pub returns-in_err-n : goal.returns-in_err-n
returns-in_err-n c = c.from_residual-in_err-n.ensures ∙ number_over c.loop-c.invariant (omega arith) c.digit_value-d.ensures.0 c.if-base-d.false (omega (arith, c.in_ok-checked_mul.ensures, c.in_err-n.ensures))

pub loop-c-preserved : goal.loop-c-preserved
loop-c-preserved c = number_next c.loop-c.invariant (omega arith) c.digit_value-d.ensures.0 c.if-base-d.false (omega (arith, c.in_ok-checked_mul.ensures, c.in_ok-n.ensures)) (omega (arith, c.in_ok-n.ensures))

pub returns : goal.returns
returns c = number_end c.loop-c.invariant (omega arith)
