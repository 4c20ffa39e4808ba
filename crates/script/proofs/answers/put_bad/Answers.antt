use mathlib.Core.Path.{refl}
use Rattle.text.specs.Text.{line_text}
use Rattle.script.specs.Answers.{bad_answer}
use Rattle.script.proofs.answers.put_bad.Goals as goal

pub returns : goal.returns
unfolding line_text bad_answer
returns c = record { wrote = c.put_letter.ensures; size = refl }
