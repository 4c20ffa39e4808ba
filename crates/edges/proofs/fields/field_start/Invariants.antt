use Rattle.std.proofs.Common.{◌≤◌, length}
use Rattle.edges.proofs.fields.field_start.Given as goal

abbrev pub invariant-loop : goal.invariant-loop
invariant-loop l = l.from ≤ length l.line
