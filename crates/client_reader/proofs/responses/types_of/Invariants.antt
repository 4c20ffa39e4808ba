use Prim.Native.Nat.{◌-◌, ◌≤◌}
use mathlib.Core.Path.{◌≡◌}
use mathlib.Core.List.{◌++◌}
use lib.ListN.{length, replicate}
use Rattle.client_reader.specs.Inner.{types_from}
use Rattle.client_reader.proofs.responses.types_of.Given as goal

abbrev pub invariant-loop-i : goal.invariant-loop-i
invariant-loop-i l = (l.i ≤ l.count) × (length l.t-items ≡ l.count) × (l.t-items ≡ types_from l.s 32 l.i ++ replicate (l.count - l.i) 0)
