-- Document 01's checks 'For all' requests, and those of every request that needs a live allocation.
use Rattle.std.specs.Prelude.{ℕ, Bool, not, List, eqb}
use Rattle.slot.specs.declared.Slot.{Slot}
use Rattle.rules.specs.declared.requests.ClientCall.{ClientCall}
use Rattle.rules.specs.Change.{check}
use Rattle.rules.specs.Values.{any_unknown}

-- 'For all: user 0 gives 401; any unknown attribute gives 420.'
unfoldable pub request_code : ClientCall → List ℕ → ℕ → ℕ
request_code call s rest = check (eqb call.user 0) 401 (check (any_unknown s) 420 rest)

-- 'no live allocation 437; other user 441'
unfoldable pub own_code : ClientCall → List ℕ → Bool → Slot → ℕ → ℕ
own_code call s own slot rest =
    request_code call s (check (not own) 437 (check (not (eqb slot.allocation.user call.user)) 441 rest))
