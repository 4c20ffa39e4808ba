use borrow.Author.Tests.{le-leb, lt-leb}
use Rattle.choice.specs.Choice.{both}
use Rattle.denied.specs.Prefixes.{is_prefix}
use Rattle.denied.proofs.prefixes.is_prefix.Goals as goal

pub returns-then-length-gt32 : goal.returns-then-length-gt32
unfolding is_prefix both
returns-then-length-gt32 c = rw (lt-leb c.args.length 32 c.if-length-gt32.true)

pub returns : goal.returns
unfolding is_prefix both
returns c = rw (le-leb c.args.length 32 c.if-length-gt32.false, ← c.power.ensures)
