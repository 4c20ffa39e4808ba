use native.Mathlib.Omega.{arith}
use Prim.Native.Nat.{◌≤◌}
use Rattle.allocation_rules.specs.Allocations.{refresh}
use Rattle.allocation_rules.proofs.Laws.{granted_refresh_small}
use Rattle.rules.proofs.Laws.{written_with, answers_error, answers_accepted}
use Rattle.allocation_rules.proofs.refresh.Goals as goal

pub returns-in-Err : goal.returns-in-Err
unfolding refresh
returns-in-Err c = answers_error _ _ _ _ c.check_refresh.ensures.code c.in-Err.is (rw c.number.ensures.is at c.respond_error.ensures)

pub refreshed-slot-requires : goal.refreshed-slot-requires
refreshed-slot-requires c = let g : c.granted_refresh-seconds.result ≤ 3600 = rw c.granted_refresh-seconds.ensures (granted_refresh_small c.lifetime.result) in omega arith

pub returns : goal.returns
unfolding refresh
returns c = rw (← c.lifetime.ensures.0, ← c.granted_refresh-seconds.ensures, ← c.transaction_id.ensures) (answers_accepted _ _ _ _ c.check_refresh.ensures.code c.in-Ok.is (written_with (rw c.in-Ok.ensures.slot at c.refreshed-slot.ensures) c.put_refresh_success-len.ensures))
