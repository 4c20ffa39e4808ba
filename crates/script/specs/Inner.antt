-- What the functions inside `run_line` promise each other. No public statement rests on it.
use Rattle.std.specs.Prelude.{ℕ, Bool, true, false, ◌≡◌, List, length}
use Rattle.rules.specs.declared.answer.Outcome.{Outcome}
use Rattle.rules.specs.declared.answer.Outcome.TheVariants.{Refused, DroppedLapsed, DroppedNever, DroppedOther, ToClient, ToPeer}
use Rattle.messages.specs.Inner.{Sent}
use Rattle.interface.specs.declared.incoming.Call.{Call}
use Rattle.state.specs.State.{State}
use Rattle.state.specs.Outcomes.{reply_after, state_after}
use Rattle.state.specs.Step.{act}
use Rattle.script.specs.Run.{shown}

-- ---- What an outcome sends

-- whether it is a part of the datagram
abbrev pub is_to_peer : Outcome → Bool
is_to_peer (Refused number) = false
is_to_peer DroppedLapsed = false
is_to_peer DroppedNever = false
is_to_peer DroppedOther = false
is_to_peer (ToClient fiveTuple len) = false
is_to_peer (ToPeer port peer start len) = true

-- ---- A call

pub record Called (before : State) (call : Call) (datagram : List ℕ) (after : State) (reply reply' output output' : List ℕ) (r : ℕ) : Type 0 where
  pub answered : Sent (shown (act before call datagram (length reply)) datagram reply) output output' r
  pub state_is : after ≡ state_after before (act before call datagram (length reply))
  pub reply_is : reply' ≡ reply_after reply (act before call datagram (length reply))
