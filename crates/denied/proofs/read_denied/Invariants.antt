use Prim.Native.Nat.{◌-◌}
use lib.ListN.{length}
use Rattle.denied.specs.Tree.{empty_tree}
use Rattle.denied.specs.Denied.{on_lines, prefixes_of}
use Rattle.denied.proofs.Laws.{Left}
use Rattle.denied.proofs.read_denied.Given as goal

abbrev pub invariant-loop-start : goal.invariant-loop-start
invariant-loop-start l = Left (on_lines empty_tree (prefixes_of l.text)) l.text l.tree l.start

abbrev pub decreases-loop-start : goal.decreases-loop-start
decreases-loop-start l = length l.text - l.start
