use native.Mathlib.Omega.{arith}
use mathlib.Core.Path.{ap}
use Prim.Native.Nat.{◌≤◌}
use Rattle.std.specs.Option.{is_some}
use Rattle.allocation_rules.specs.Allocations.{allocate}
use Rattle.allocation_rules.proofs.Laws.{granted_small}
use Rattle.rules.proofs.Laws.{gives_kept, gives_written, answers_error, answers_accepted}
use Rattle.allocation_rules.proofs.allocate.Goals as goal

pub returns-in-Err : goal.returns-in-Err
unfolding allocate
returns-in-Err c = answers_error _ _ _ _ (rw (c.is_some.ensures, c.repeated-again.ensures.again) at c.check_allocate.ensures) c.in-Err.is (rw c.number.ensures.is at c.respond_error.ensures)

pub allocated-slot-requires : goal.allocated-slot-requires
allocated-slot-requires c = let g : c.granted-seconds.result ≤ 3600 = rw c.granted-seconds.ensures (granted_small c.lifetime.result) in omega arith

pub returns-in-Some : goal.returns-in-Some
unfolding allocate
returns-in-Some c =
    let again = ap is_some c.in-Some.is in
    let checked = rw (c.is_some.ensures, again) at c.check_allocate.ensures in
    let slot = rw c.in-Some.is at c.repeated-again.ensures.slot in
    rw (← c.repeated-again.ensures.again, again, ← slot, ← c.seconds_left-left.ensures) (answers_accepted _ _ _ _ checked c.in_default.is (gives_kept c.give_allocated.ensures))

pub returns : goal.returns
unfolding allocate
returns c =
    let again = ap is_some c.in_default-again.is in
    let checked = rw (c.is_some.ensures, again) at c.check_allocate.ensures in
    rw (← c.repeated-again.ensures.again, again, ← c.lifetime.ensures.0, ← c.granted-seconds.ensures) (answers_accepted _ _ _ _ checked c.in_default.is (gives_written (rw c.transaction_id.ensures at c.allocated-slot.ensures) c.give_allocated-outcome.ensures))
