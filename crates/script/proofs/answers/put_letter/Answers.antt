use mathlib.Core.List.{[], ◌∷◌}
use Rattle.wire.proofs.Laws.{wrote_sets}
use Rattle.script.proofs.answers.put_letter.Goals as goal

pub returns : goal.returns
returns c = wrote_sets (c.args.letter ∷ c.args.end ∷ []) c.args.out.now c.requires
