-- What a call gives back (document 01, 'What a call gives back'), and what it does to the one slot that it is about.
use Rattle.std.specs.Prelude.{ℕ, Bool, true, false, List, ◌++◌, eqb, length, drop}
use Rattle.choice.specs.Choice.{pick}
use Rattle.address.specs.declared.FiveTuple.{FiveTuple}
use Rattle.address.specs.declared.TransportAddress.{TransportAddress}
use Rattle.stun.specs.declared.kinds.Method.{Method}
use Rattle.stun.specs.Message.{unknown_types}
use Rattle.stun.specs.Values.{transaction_id_of}
use Rattle.messages.specs.Messages.{error_response, unknown_response}
use Rattle.slot.specs.declared.Slot.{Slot}
use Rattle.rules.specs.declared.answer.Outcome.{Outcome}
use Rattle.rules.specs.declared.answer.Outcome.TheVariants.{DroppedLapsed, DroppedNever, DroppedOther, ToClient, ToPeer}

-- request 3: why nothing goes out: a permission is missing and nothing else, and it has lapsed or there never was one; or another cause
pub data Cause : Type 0 where
  permission_lapsed : Cause
  never_permitted : Cause
  other_cause : Cause

abbrev pub dropped_for : Cause → Outcome
dropped_for permission_lapsed = DroppedLapsed
dropped_for never_permitted = DroppedNever
dropped_for other_cause = DroppedOther

-- what goes out: nothing, and why; a message's bytes to the client of a 5-tuple; a part of the datagram from a relay port to a peer
pub data Out : Type 0 where
  dropped : Cause → Out
  to_client : FiveTuple → List ℕ → Out
  to_peer : (port : ℕ) → TransportAddress → (start len : ℕ) → Out

-- what becomes of the slot that a call is about: it stays as it was, or it is written
pub data Change : Type 0 where
  keep : Out → Change
  write : Slot → Out → Change

abbrev pub out_of : Change → Out
out_of (keep out) = out
out_of (write slot out) = out

-- the table of outcomes: 'Dropped', which by request 3 carries its cause, 'To the client: 5-tuple, n bytes', 'To a peer: relay port, peer, place of payload'
abbrev pub outcome_of : Out → Outcome
outcome_of (dropped cause) = dropped_for cause
outcome_of (to_client fiveTuple message) = ToClient fiveTuple (length message)
outcome_of (to_peer port peer start len) = ToPeer port peer start len

-- its column 'Reply buffer': 'first n written, rest unchanged', else 'unchanged'
abbrev pub reply_after : List ℕ → Out → List ℕ
reply_after reply (dropped cause) = reply
reply_after reply (to_client fiveTuple message) = message ++ drop (length message) reply
reply_after reply (to_peer port peer start len) = reply

-- 'Checks in order; the first that applies gives the error response.' 0 is none
unfoldable pub check : Bool → ℕ → ℕ → ℕ
check true code rest = code
check false code rest = rest

-- 'An error carries ERROR-CODE ..; A 420 adds UNKNOWN-ATTRIBUTES'
unfoldable pub error_message : Method → List ℕ → ℕ → List ℕ
error_message method s code =
    pick (eqb code 420) (unknown_response method (transaction_id_of s) (unknown_types s)) (error_response method (transaction_id_of s) code)

-- 'Every error leaves all slots as found.'
unfoldable pub respond : FiveTuple → Method → List ℕ → ℕ → Change → Change
respond fiveTuple method s code accepted = pick (eqb code 0) accepted (keep (to_client fiveTuple (error_message method s code)))
