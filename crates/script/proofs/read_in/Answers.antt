use Rattle.script.proofs.Run.{reads_of}
use Rattle.script.proofs.read_in.Goals as goal

pub returns : goal.returns
returns c = reads_of c.line_in.ensures c.read_line.ensures
