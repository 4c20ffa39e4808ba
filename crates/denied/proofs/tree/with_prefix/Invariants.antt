use Rattle.denied.specs.Tree.{with_prefix}
use Rattle.denied.proofs.Laws.{Growing}
use Rattle.denied.proofs.tree.with_prefix.Given as goal

abbrev pub invariant-loop-bits : goal.invariant-loop-bits
invariant-loop-bits l = Growing (with_prefix l.fn.tree l.fn.prefix.address l.fn.prefix.length) l.nodes l.count l.node l.prefix.address l.rest l.bits
