-- One step of the relay: from the state, a call, its datagram and its reply buffer, what it does. Every entry's promise is stated by it.
use Rattle.std.specs.Prelude.{ℕ, List, length, set, Option, Some, None}
use Rattle.refusal.specs.declared.Refusal.{Refusal}
use Rattle.refusal.specs.Refusal.{numbered}
use Rattle.rules.specs.declared.answer.Outcome.{Outcome}
use Rattle.rules.specs.Change.{Change, keep, write, out_of}
use Rattle.interface.specs.declared.incoming.Call.{Call}
use Rattle.state.specs.State.{State, clock_of, at_time, with_slots}
use Rattle.state.specs.Outcomes.{Act, refuse, accept, Does}
use Rattle.interface.specs.Refusals.{time_of, lengths, refusal}
use Rattle.decisions.specs.Decisions.{Decision, names_denied, decided}

-- ---- The act

-- where no slot was found there is none to write
abbrev pub done : State → Option ℕ → Change → Act
done st (Some k) (keep out) = accept st out
done st (Some k) (write slot out) = accept (with_slots (set st.slots k slot) st) out
done st None change = accept st (out_of change)

-- what is decided in a state
abbrev pub decision : State → Call → List ℕ → Decision
decision st call s = decided (names_denied st.bookkeeping.denied call s) call s st.slots

-- a call that is not refused: 'clock = now'
unfoldable pub accepted : State → Call → List ℕ → Act
accepted st call s = done (at_time (time_of call) st) (decision st call s).place (decision st call s).change

-- a call that gets a refusal is refused
abbrev pub refused_or : Option Refusal → Act → Act
refused_or (Some refusal) accepted = refuse refusal
refused_or None accepted = accepted

-- what a call with this datagram and a reply buffer of this length does
unfoldable pub act : State → Call → List ℕ → ℕ → Act
act st call s reply = refused_or (numbered (refusal (clock_of st) (lengths (length st.slots) (length s) reply) call)) (accepted st call s)

-- what an entry promises
abbrev pub Stepped : (before : State) → Call → (datagram : List ℕ) → Outcome → (after : State) → (reply reply' : List ℕ) → Type 0
Stepped before call datagram outcome after reply reply' = Does (act before call datagram (length reply)) before outcome after reply reply'
