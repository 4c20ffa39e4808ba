-- What the functions inside the relay promise each other. No public statement rests on it.
use Rattle.std.specs.Prelude.{ℕ, Bool, List, ◌≡◌, set, Option, Some, None}
use Rattle.slot.specs.declared.Slot.{Slot}
use Rattle.table.specs.Inner.{Looked}
use Rattle.rules.specs.declared.answer.Answer.{Answer}
use Rattle.rules.specs.declared.answer.Outcome.{Outcome}
use Rattle.interface.specs.declared.incoming.Call.{Call}
use Rattle.decisions.specs.declared.Asking.{Asking}
use Rattle.decisions.specs.declared.Seen.{Seen}
use Rattle.decisions.specs.Decisions.{names_denied}
use Rattle.state.specs.declared.Bookkeeping.{Bookkeeping}
use Rattle.state.specs.State.{state, at_clock}
use Rattle.state.specs.Outcomes.{Does}
use Rattle.interface.specs.Refusals.{time_of}
use Rattle.state.specs.Step.{accepted}
use Rattle.decisions.specs.Inner.{asked_for, asking_of, wanted_by, place_in}

-- a call that is not refused has begun: the clock is set, and it asks this
pub record Begun (kept : Bookkeeping) (call : Call) (datagram : List ℕ) (asking : Asking) (kept' : Bookkeeping) : Type 0 where
  pub asking_is : asking ≡ asking_of kept.denied call datagram
  pub kept_is : kept' ≡ at_clock (time_of call) kept

-- what the look over the slots says for a call
pub record Saw (slots : List Slot) (call : Call) (datagram : List ℕ) (seen : Seen) : Type 0 where
  pub asked : seen.asked ≡ asked_for call datagram
  pub looked : Looked slots (wanted_by call seen.asked) seen.survey

-- what one look over the slots learned, for what is asked
pub record LookedFor (slots : List Slot) (call : Call) (asking : Asking) (seen : Seen) : Type 0 where
  pub asked_is : seen.asked ≡ asking.asked
  pub denied_is : seen.denied ≡ asking.denied
  pub looked : Looked slots (wanted_by call seen.asked) seen.survey

-- the answer's slot is put at its place, where it writes one
abbrev pub put_back : List Slot → ℕ → Option Slot → List Slot
put_back slots k (Some slot) = set slots k slot
put_back slots k None = slots

pub record WroteBack (seen : Seen) (answer : Answer) (outcome : Outcome) (slots slots' : List Slot) : Type 0 where
  pub outcome_is : outcome ≡ answer.outcome
  pub slots_are : slots' ≡ put_back slots (place_in seen) answer.written

-- what is done to the slots where the call is accepted, whatever is kept beside them, as long as the tree there says so of the peers that it names
pub record Answered (denied : Bool) (slots : List Slot) (call : Call) (datagram : List ℕ) (outcome : Outcome) (slots' : List Slot) (reply reply' : List ℕ) : Type 0 where
  pub does : (kept : Bookkeeping) → names_denied kept.denied call datagram ≡ denied → Does (accepted (state slots kept) call datagram) (state slots kept) outcome (state slots' (at_clock (time_of call) kept)) reply reply'

-- what an accepted call does to the slots and to what is kept beside them
abbrev pub DoesAccepted : List Slot → Bookkeeping → Call → (datagram : List ℕ) → Outcome → List Slot → Bookkeeping → (reply reply' : List ℕ) → Type 0
DoesAccepted slots kept call datagram outcome slots' kept' reply reply' =
    Does (accepted (state slots kept) call datagram) (state slots kept) outcome (state slots' kept') reply reply'
