use Rattle.std.proofs.Common.{◌≤◌, length}
use Rattle.calls.proofs.serve.Given as goal

abbrev pub invariant-loop : goal.invariant-loop
invariant-loop g l = (l.window.next ≤ l.window.end) × ((l.window.end ≤ length l.input) × (l.window.gathered ≤ length l.output))
