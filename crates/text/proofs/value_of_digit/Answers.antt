use Rattle.text.proofs.Laws.{digit-sum}
use Rattle.text.proofs.value_of_digit.Goals as goal

pub returns : goal.returns
returns c = let e = digit-sum c.args.c c.requires in (e, rw e c.requires)
