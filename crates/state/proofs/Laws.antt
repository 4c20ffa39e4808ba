-- The laws of one step: what a refused call leaves, what an accepted one does, and what is done to the slots.
use Prim.Native.Nat.{ℕ}
use mathlib.Core.Path.{◌≡◌, refl, sym, ap, ◌∙◌}
use mathlib.Core.Bool.{true, false≢true}
use mathlib.Core.List.{List}
use lib.ListN.{length}
use Rattle.std.specs.Prelude.{Option, Some, None, Result, Ok, Err}
use Rattle.refusal.specs.declared.Refusal.{Refusal}
use Rattle.refusal.specs.Refusal.{number, numbered, number_of}
use Rattle.refusal.proofs.Laws.{numbered_number, none_numbered}
use Rattle.slot.specs.declared.Slot.{Slot}
use Rattle.std.specs.Prelude.{Option, Some, None}
use Rattle.slot.specs.Search.{has}
use Rattle.table.specs.Inner.{place_of}
use Rattle.rules.specs.declared.answer.Outcome.{Outcome}
use Rattle.rules.specs.declared.answer.Outcome.TheVariants.{Refused}
use Rattle.rules.specs.Change.{Out, keep, write, outcome_of, reply_after}
use Rattle.interface.specs.declared.incoming.Call.{Call}
use Rattle.interface.specs.declared.refusals.Lengths.{Lengths}
use Rattle.interface.specs.Refusals.{lengths, refusal}
use Rattle.interface.proofs.Laws.{refusal_small}
use Rattle.state.specs.declared.Bookkeeping.{Bookkeeping}
use Rattle.state.specs.State.{State, state, clock_of}
use Rattle.state.specs.Outcomes.{Act, refuse, accept, Does}
use Rattle.state.specs.Step.{done, accepted, refused_or, act, Stepped}

-- a call is refused or accepted: what holds of both acts holds of its own
pub acted : (P : Act → Type 0) (st : State) (call : Call) (s : List ℕ) (reply : ℕ) → ((r : Refusal) → P (refuse r))
    → (refusal (clock_of st) (lengths (length st.slots) (length s) reply) call ≡ 0 → P (accepted st call s)) → P (act st call s reply)
unfolding act
acted P st call s reply refused taken = go (numbered (refusal (clock_of st) l call)) refl
  where
    l : Lengths
    l = lengths (length st.slots) (length s) reply

    go : (told : Option Refusal) → numbered (refusal (clock_of st) l call) ≡ told → P (refused_or told (accepted st call s))
    go (Some r) e = refused r
    go None e = taken (none_numbered (refusal (clock_of st) l call) (refusal_small (clock_of st) l call) e)

module _ (slots : List Slot) (kept : Bookkeeping) (call : Call) (s reply : List ℕ) {checked : Result Unit Refusal}
    (q : number_of checked ≡ refusal kept.clock (lengths (length slots) (length s) (length reply)) call) where
  -- refused: everything as it was
  pub refused_step : {r : Refusal} → checked ≡ Err r → Stepped (state slots kept) call s (Refused (number r)) (state slots kept) reply reply
  unfolding act
  refused_step {r} e =
      let n : refusal kept.clock (lengths (length slots) (length s) (length reply)) call ≡ number r = sym q ∙ ap number_of e in
      record { outcome_is = rw (n, numbered_number r); state_is = rw (n, numbered_number r); reply_is = rw (n, numbered_number r) }

  -- a call that is not refused: it is accepted
  pub none_refused : {passed : Unit} → checked ≡ Ok passed → refusal kept.clock (lengths (length slots) (length s) (length reply)) call ≡ 0
  none_refused e = sym q ∙ ap number_of e

pub accepted-step : (slots : List Slot) (kept : Bookkeeping) (call : Call) (s reply : List ℕ) {outcome : Outcome} {after : State} {reply' : List ℕ}
    → refusal kept.clock (lengths (length slots) (length s) (length reply)) call ≡ 0 → Does (accepted (state slots kept) call s) (state slots kept) outcome after reply reply'
    → Stepped (state slots kept) call s outcome after reply reply'
unfolding act
accepted-step slots kept call s reply e w = rw e w

-- the state after the act: the same where no slot is written, wherever one was found; else with the slot at the place that was found
pub kept_done : (st : State) (found : Option ℕ) (out : Out) → done st found (keep out) ≡ done st None (keep out)
kept_done st (Some k) out = refl
kept_done st None out = refl

pub written-done : (st : State) (found : Option ℕ) {k : ℕ} (slot : Slot) (out : Out) → has found ≡ true → k ≡ place_of found
    → done st found (write slot out) ≡ done st (Some k) (write slot out)
written-done st (Some i) slot out h e = ap (λ (j : ℕ). done st (Some j) (write slot out)) (sym e)
written-done st None slot out h e = absurd (false≢true h)

-- what is given out and left, once it is known what the act is
pub does : {done : Act} {before after : State} {outcome : Outcome} {reply reply' : List ℕ} (next : State) (out : Out) → done ≡ accept next out → outcome ≡ outcome_of out → after ≡ next
    → reply' ≡ reply_after reply out → Does done before outcome after reply reply'
does next out d o n r = record { outcome_is = rw d o; state_is = rw d n; reply_is = rw d r }
