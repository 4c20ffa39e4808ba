use Prim.Native.Nat.{◌≤◌}
use lib.ListN.{length, take}
use Rattle.wire.specs.Inner.{Wrote}
use Rattle.messages.specs.Messages.{types_bytes}
use Rattle.messages.proofs.put_types.Given as goal

abbrev pub invariant-loop-i : goal.invariant-loop-i
invariant-loop-i l = (l.i ≤ length l.types) × Wrote (types_bytes (take l.i l.types)) l.initial.out l.out
