use Rattle.script.proofs.Run.{runs_within}
use Rattle.calls.proofs.answer_line.Goals as goal

pub returns : goal.returns
returns c = runs_within c.run_line.ensures c.run_line.auto.output
