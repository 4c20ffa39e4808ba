use mathlib.Core.Path.{◌∙◌}
use Rattle.choice.proofs.Laws.{and_both}
use Rattle.text.proofs.Laws.{digit_low, digit_high}
use Rattle.text.proofs.is_digit.Goals as goal

pub returns-then-c-lt58 : goal.returns-then-c-lt58
returns-then-c-lt58 c = digit_low _ c.if-c-lt58.true

pub returns-else-c-lt58 : goal.returns-else-c-lt58
returns-else-c-lt58 c = and_both _ _ ∙ digit_high _ c.if-c-lt58.false
