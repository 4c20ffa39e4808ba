use mathlib.Core.Path.{sym, ◌∙◌}
use native.Mathlib.Omega.{arith}
use Rattle.text.proofs.Laws.{digit_decimal, digit_letter, digit_none}
use Rattle.text.proofs.digit_value.Goals as goal

pub returns-in-48-to-57 : goal.returns-in-48-to-57
returns-in-48-to-57 c = (c.from.ensures ∙ sym (digit_decimal c.args.c (omega arith) (omega arith)), omega arith)

pub returns-in-97-to-102 : goal.returns-in-97-to-102
returns-in-97-to-102 c = (c.from-in-97-to-102.ensures ∙ sym (digit_letter c.args.c (omega arith) (omega arith)), omega arith)

pub returns-in_default : goal.returns-in_default
returns-in_default c = (digit_none c.args.c (λ a b. omega arith) (λ a b. omega arith), omega arith)

pub returns-in_default-2 : goal.returns-in_default-2
returns-in_default-2 c = (digit_none c.args.c (λ a b. omega arith) (λ a b. omega arith), omega arith)

pub returns-in_default-3 : goal.returns-in_default-3
returns-in_default-3 c = (digit_none c.args.c (λ a b. omega arith) (λ a b. omega arith), omega arith)
