-- Document 01's Allocate and Refresh, with request 1's repeated Allocate: the checks with their codes in order, the lifetime granted, the port,
-- and what the accepted request does to its slot. What the look over the table found comes as an argument.
use Rattle.std.specs.Prelude.{ℕ, zero, suc, ◌+◌, ◌-◌, ◌%◌, ◌^◌, min, max, Bool, false, not, List, eqb, leb, get_or}
use Rattle.choice.specs.Choice.{pick, both}
use Rattle.address.specs.declared.TransactionId.{TransactionId}
use Rattle.address.specs.Address.{same_transaction_id}
use Rattle.stun.specs.declared.kinds.Method.TheVariants.{Allocate, Refresh}
use Rattle.stun.specs.declared.values.NumberValue.{NumberValue}
use Rattle.stun.specs.declared.values.NumberValue.TheVariants.{Number, WrongLength, Absent}
use Rattle.stun.specs.Values.{transaction_id_of}
use Rattle.messages.specs.Messages.{allocate_success, refresh_success}
use Rattle.slot.specs.declared.Allocation.{Allocation}
use Rattle.slot.specs.declared.Slot.{Slot}
use Rattle.slot.specs.Slot.{fresh_slot, with_allocation, with_transaction_id}
use Rattle.rules.specs.declared.requests.ClientCall.{ClientCall}
use Rattle.rules.specs.Change.{Out, Change, keep, write, to_client, check, respond}
use Rattle.rules.specs.Values.{lifetime, requested_family, requested_transport, missing, wrong_length, other_than}
use Rattle.rules.specs.Requests.{request_code, own_code}

-- ---- Allocate

-- what an Allocate is checked against: whether its 5-tuple has a live slot, how many the user holds, whether some slot isn't live, and the port that
-- a new allocation gets
pub record Room : Type 0 where
  pub own : Bool
  pub held : ℕ
  pub free : Bool
  pub port : ℕ

-- request 1: 'An Allocate on a live 5-tuple with the same id and user'. `own` says whether the 5-tuple has a live slot, and `slot` is that one
unfoldable pub repeats : ClientCall → List ℕ → Bool → Slot → Bool
repeats call s own slot = both own (both (same_transaction_id slot.transaction_id (transaction_id_of s)) (eqb slot.allocation.user call.user))

-- 'live allocation for the 5-tuple 437; REQUESTED-TRANSPORT missing or not 4 bytes 400; not 17 442; REQUESTED-ADDRESS-FAMILY not 4 bytes 400;
-- not 1 440; LIFETIME not 4 bytes 400; user holds 8 or more live allocations 486; no slot that isn't live 508.' Request 1: a repeat
-- is no error, and nothing after it is looked at
unfoldable pub allocate_code : ClientCall → List ℕ → (again : Bool) → Room → ℕ
allocate_code call s again room =
    request_code call s
    (check again 0
    (check room.own 437
    (check (missing (requested_transport s)) 400
    (check (other_than 17 (requested_transport s)) 442
    (check (wrong_length (requested_family s)) 400
    (check (other_than 1 (requested_family s)) 440
    (check (wrong_length (lifetime s)) 400
    (check (leb 8 room.held) 486
    (check (not room.free) 508
    0)))))))))

-- 'Its port is 49152 + k, where k is the first of start, start + 1, and on (remainders by 128) whose port no live slot holds.'
unfoldable pub first_free : ℕ → List Bool → ℕ → ℕ
first_free zero held k = k % 128
first_free (suc tries) held k = pick (get_or held (k % 128) false) (first_free tries held (suc k)) (k % 128)

-- held says of each of the 128 ports whether a live slot holds it; there are fewer slots than ports, so 128 tries find a free one
unfoldable pub port_for : List Bool → ℕ → ℕ
port_for held start = 49152 + first_free 128 held start

-- 'Lifetime granted: absent 600; else the smaller of the value and 3600, but not below 600.'
abbrev pub granted : NumberValue → ℕ
granted (Number seconds) = max 600 (min seconds 3600)
granted WrongLength = 600
granted Absent = 600

-- 'The lowest such slot is made fresh, then takes the user, the 5-tuple, the port and its expiry, now + granted.' Request 1: 'Keep the
-- transaction id in the slot.'
unfoldable pub allocated : ClientCall → TransactionId → (port seconds : ℕ) → Slot
allocated call id port seconds =
    let allocation : Allocation = record { user = call.user; five_tuple = call.five_tuple; port = port; expiry = call.time + seconds } in
    with_transaction_id (with_allocation fresh_slot allocation) id

-- 'Reply: XOR-RELAYED-ADDRESS 0x0016, LIFETIME, XOR-MAPPED-ADDRESS 0x0020 (the client).'
abbrev pub allocate_reply : ClientCall → List ℕ → (port seconds : ℕ) → Out
allocate_reply call s port seconds = to_client call.five_tuple (allocate_success (transaction_id_of s) call.relay port seconds call.five_tuple.client)

-- request 1: 'the seconds left, at most 2^32 - 1'
unfoldable pub seconds_left : (time expiry : ℕ) → ℕ
seconds_left time expiry = min (expiry - time) (2 ^ 32 - 1)

-- a repeat 'gets the success reply again, with the stored port and the seconds left ..; nothing in the slot changes'
abbrev pub told_again : ClientCall → List ℕ → Slot → Change
told_again call s slot = keep (allocate_reply call s slot.allocation.port (seconds_left call.time slot.allocation.expiry))

abbrev pub newly_made : ClientCall → List ℕ → (port seconds : ℕ) → Change
newly_made call s port seconds = write (allocated call (transaction_id_of s) port seconds) (allocate_reply call s port seconds)

unfoldable pub allocate : ClientCall → List ℕ → Room → Slot → Change
allocate call s room slot =
    let again = repeats call s room.own slot in
    respond call.five_tuple Allocate s (allocate_code call s again room)
    (pick again (told_again call s slot) (newly_made call s room.port (granted (lifetime s))))

-- ---- Refresh

-- 'no live allocation 437; other user 441; LIFETIME not 4 bytes 400; family not 4 bytes 400; family not 1 443.'
unfoldable pub refresh_code : ClientCall → List ℕ → Bool → Slot → ℕ
refresh_code call s own slot =
    own_code call s own slot
    (check (wrong_length (lifetime s)) 400
    (check (wrong_length (requested_family s)) 400
    (check (other_than 1 (requested_family s)) 443
    0)))

-- 'In Refresh, 0 gives 0.'
abbrev pub granted_refresh : NumberValue → ℕ
granted_refresh (Number seconds) = pick (eqb seconds 0) 0 (max 600 (min seconds 3600))
granted_refresh WrongLength = 600
granted_refresh Absent = 600

-- 'The expiry becomes now + granted'
unfoldable pub renewed : ℕ → Slot → Slot
renewed expiry slot =
    let was = slot.allocation in
    with_allocation slot (record { user = was.user; five_tuple = was.five_tuple; port = was.port; expiry = expiry })

-- 'granted 0 makes the slot fresh'
unfoldable pub refreshed : ℕ → ℕ → Slot → Slot
refreshed time seconds slot = pick (eqb seconds 0) fresh_slot (renewed (time + seconds) slot)

-- 'Reply: LIFETIME granted.'
unfoldable pub refresh : ClientCall → List ℕ → Bool → Slot → Change
refresh call s own slot =
    let seconds = granted_refresh (lifetime s) in
    respond call.five_tuple Refresh s (refresh_code call s own slot)
    (write (refreshed call.time seconds slot)
    (to_client call.five_tuple (refresh_success (transaction_id_of s) seconds)))
