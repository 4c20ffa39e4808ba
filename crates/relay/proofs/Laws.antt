-- The laws that the relay's proofs cite.
use Prim.Native.Nat.{ℕ, suc, ◌<◌, ◌≤◌, ◌^◌}
use mathlib.Core.Path.{◌≡◌, refl, sym, ap, subst, ◌∙◌}
use mathlib.Core.Bool.{Bool, true, false, not, false≢true}
use mathlib.Core.List.{List}
use native.Mathlib.Omega.{arith}
use lib.Dec.{eqb, ltb}
use lib.ListN.{length, set}
use borrow.Author.Tests.{eqb-true, ltb-false, not-false}
use Rattle.std.specs.Prelude.{IsSome}
use Rattle.choice.specs.Choice.{pick}
use Rattle.slot.specs.declared.Slot.{Slot}
use Rattle.std.specs.Prelude.{Option, Some, None}
use Rattle.slot.specs.Search.{find, has}
use Rattle.slot.specs.Slot.{holds, holds_port}
use Rattle.table.specs.Table.{in_slot, lapsed}
use Rattle.table.specs.Inner.{keyed, Looked, place_of, Within}
use Rattle.table.specs.declared.keys.Wanted.{Wanted}
use Rattle.table.specs.declared.surveys.Survey.{Survey}
use Rattle.table.proofs.Laws.{found_within, own_within, place_there}
use Rattle.rules.specs.declared.answer.Answer.{Answer}
use Rattle.rules.specs.declared.answer.Outcome.{Outcome}
use Rattle.decisions.specs.declared.client.Asked.{Asked}
use Rattle.rules.specs.Change.{Out, Change, keep, write, out_of, outcome_of, reply_after}
use Rattle.rules.specs.Inner.{slot_written, Answers}
use Rattle.decisions.specs.Client.{asked_by}
use Rattle.rules.proofs.Laws.{kept_not_written}
use Rattle.interface.specs.declared.incoming.Call.{Call}
use Rattle.interface.specs.declared.incoming.Call.TheVariants.{Client, Peer}
use Rattle.interface.specs.declared.incoming.FromClient.{FromClient}
use Rattle.decisions.specs.declared.Asking.{Asking}
use Rattle.decisions.specs.declared.Seen.{Seen}
use Rattle.state.specs.declared.Bookkeeping.{Bookkeeping}
use Rattle.state.specs.State.{state, at_clock, at_time, with_slots}
use Rattle.state.specs.Outcomes.{Does}
use Rattle.interface.specs.Refusals.{time_of, lengths, refusal}
use Rattle.decisions.specs.Decisions.{names_denied, on_asked, decided}
use Rattle.state.specs.Step.{done, accepted}
use Rattle.decisions.specs.Inner.{Ready, asked_for, asking_of, wanted_by, saw, place_for, place_in, unwritten, Lent, Owned}
use Rattle.std.specs.Borrow.{Bor}
use Rattle.relay.specs.Inner.{Begun, Saw, LookedFor, WroteBack, Answered, DoesAccepted}
use Rattle.decisions.proofs.Laws.{decided-writes}
use Rattle.state.proofs.Laws.{kept_done, written-done, does}

-- where the checks give no number, this one did not apply, and the rest give none
pub none_of : (b : Bool) (c rest : ℕ) → pick b (suc c) rest ≡ 0 → (b ≡ false) × (rest ≡ 0)
none_of true c rest e = let y : ⊥ = omega (arith, e) in absurd y
none_of false c rest e = (refl, e)

-- what a call that is not refused has
pub record Accepted (clock : ℕ) (call : Call) (slots : List Slot) (s reply : List ℕ) : Type 0 where
  pub sixty_four : length slots ≡ 64
  pub ready : Ready call s reply
  pub not_before : clock ≤ time_of call

pub not_refused : (clock : ℕ) (slots : List Slot) (s reply : List ℕ) (call : Call) → refusal clock (lengths (length slots) (length s) (length reply)) call ≡ 0
    → Accepted clock call slots s reply
unfolding refusal
not_refused clock slots s reply (Client c) e =
    let a = none_of (ltb (length reply) 1536) 2 _ e in
    let b = none_of (not (eqb (length slots) 64)) 5 _ a.1 in
    let d = none_of (ltb 1500 (length s)) 3 _ b.1 in
    let f = none_of (not (eqb c.five_tuple.protocol 17)) 6 _ d.1 in
    let g = none_of (ltb 32 c.user) 4 _ f.1 in
    let h = none_of (ltb (2 ^ 40) c.time) 1 _ g.1 in
    let i = none_of (ltb c.time clock) 0 0 h.1 in
    record {
      sixty_four = eqb-true (length slots) 64 (not-false _ b.0);
      ready = record { room = ltb-false (length reply) 1536 a.0; soon = ltb-false (2 ^ 40) c.time h.0; user = ltb-false 32 c.user g.0 };
      not_before = ltb-false c.time clock i.0;
    }
not_refused clock slots s reply (Peer c) e =
    let a = none_of (ltb (length reply) 1536) 2 _ e in
    let b = none_of (not (eqb (length slots) 64)) 5 _ a.1 in
    let d = none_of (ltb 1500 (length s)) 3 _ b.1 in
    let h = none_of (ltb (2 ^ 40) c.time) 1 _ d.1 in
    let i = none_of (ltb c.time clock) 0 0 h.1 in
    record {
      sixty_four = eqb-true (length slots) 64 (not-false _ b.0);
      ready = record { room = ltb-false (length reply) 1536 a.0; short = ltb-false 1500 (length s) d.0 };
      not_before = ltb-false c.time clock i.0;
    }

-- the look that a call asks for is one over its table
pub looked_for : (call : Call) (slots : List Slot) (asking : Asking) {wanted : Wanted} {survey : Survey} {seen : Seen} → wanted ≡ wanted_by call asking.asked
    → Looked slots wanted survey → seen ≡ saw asking survey → LookedFor slots call asking seen
looked_for call slots asking {wanted} {survey} {seen} w l e =
    rw e (record { asked_is = refl; denied_is = refl; looked = subst (λ (x : Wanted). Looked slots x survey) w l })

pub saw_asked : {slots : List Slot} {call : Call} {s : List ℕ} {asking : Asking} {seen : Seen} → asking.asked ≡ asked_for call s → LookedFor slots call asking seen → Saw slots call s seen
saw_asked a l = record { asked = l.asked_is ∙ a; looked = l.looked }

-- the place of the slot that is written is the one that was decided about; only a request writes one
asked_place : (denied : Bool) (call : FromClient) (s : List ℕ) (slots : List Slot) (asked : Asked) {survey : Survey} → Looked slots (wanted_by (Client call) asked) survey
    → (slot : Slot) (out : Out) → (on_asked denied call s slots asked).change ≡ write slot out → place_for asked survey ≡ (on_asked denied call s slots asked).place
unfolding keyed
asked_place denied call s slots Asked.Allocate l slot out e = (l.room refl).free
asked_place denied call s slots Asked.Refresh l slot out e = l.own
asked_place denied call s slots Asked.CreatePermission l slot out e = l.own
asked_place denied call s slots Asked.ChannelBind l slot out e = l.own
asked_place denied call s slots Asked.Send l slot out e = kept_not_written e
asked_place denied call s slots Asked.ChannelData l slot out e = kept_not_written e
asked_place denied call s slots Asked.Nothing l slot out e = kept_not_written e

places : (denied : Bool) (call : Call) (s : List ℕ) (slots : List Slot) {asked : Asked} {survey : Survey} → asked ≡ asked_for call s → Looked slots (wanted_by call asked) survey
    → (slot : Slot) (out : Out) → (decided denied call s slots).change ≡ write slot out → place_for asked survey ≡ (decided denied call s slots).place
unfolding decided
places denied (Client call) s slots {asked} {survey} a l slot out e =
    subst (λ (x : Asked). place_for x survey ≡ (on_asked denied call s slots (asked_by s)).place) (sym a)
    (asked_place denied call s slots (asked_by s) (subst (λ (x : Asked). Looked slots (wanted_by (Client call) x) survey) a l) slot out e)
places denied (Peer call) s slots a l slot out e = kept_not_written e

-- the slot that is decided about lies in the table
decided_within : (denied : Bool) (call : Call) (s : List ℕ) (slots : List Slot) → Within (decided denied call s slots).place (length slots)
unfolding decided
decided_within denied call s slots = go call
  where
    own : (c : FromClient) → Within (find (in_slot (holds c.time c.five_tuple)) slots) (length slots)
    own c = found_within (in_slot (holds c.time c.five_tuple)) slots _ refl

    asks : (c : FromClient) (x : Asked) → Within (on_asked denied c s slots x).place (length slots)
    asks c Asked.Allocate = found_within (in_slot (lapsed c.time)) slots _ refl
    asks c Asked.Refresh = own c
    asks c Asked.CreatePermission = own c
    asks c Asked.ChannelBind = own c
    asks c Asked.Send = own c
    asks c Asked.ChannelData = own c
    asks c Asked.Nothing = tt

    go : (x : Call) → Within (decided denied x s slots).place (length slots)
    go (Client c) = asks c (asked_by s)
    go (Peer c) = found_within (in_slot (holds_port c.time c.port)) slots _ refl

-- the place of the slot that is written lies in the table
module _ (slots : List Slot) (denied : Bool) (call : Call) (s : List ℕ) (asked : Asked) {survey : Survey} (looked : Looked slots (wanted_by call asked) survey)
    (a : asked ≡ asked_for call s) (slot : Slot) (out : Out) (is : (decided denied call s slots).change ≡ write slot out) where
  placed : place_for asked survey ≡ (decided denied call s slots).place
  placed = places denied call s slots a looked slot out is

  there : has (place_for asked survey) ≡ true
  there = ap has placed ∙ decided-writes denied call s slots slot out is

  put_within : place_of (place_for asked survey) < length slots
  put_within = place_there slots (place_for asked survey) refl there refl (subst (λ (x : Option ℕ). Within x (length slots)) (sym placed) (decided_within denied call s slots))

-- the slot that was found
pub seen_within : (slots : List Slot) {call : Call} {s : List ℕ} {seen : Seen} → Saw slots call s seen → Within seen.survey.own (length slots)
seen_within slots w = own_within slots w.looked

pub owned : (slots : List Slot) {call : Call} {s : List ℕ} {seen : Seen} {own : Option (Bor Slot)} → Saw slots call s seen → Lent slots seen.survey.own own
    → Owned slots (wanted_by call seen.asked) own
owned slots {own = own} w l = subst (λ (place : Option ℕ). Lent slots place own) w.looked.own l

-- the slot that is written lies in the table, and it is written back
module _ (slots : List Slot) (call : Call) (s reply : List ℕ) (seen : Seen) {reply' : List ℕ} {answer : Answer} (sees : Saw slots call s seen)
    (w : Answers (decided seen.denied call s slots).change reply reply' answer) where
  pub written_within : IsSome answer.written → place_in seen < length slots
  written_within y = go (decided seen.denied call s slots).change refl w.written
    where
      go : (change : Change) → (decided seen.denied call s slots).change ≡ change → answer.written ≡ slot_written change → place_in seen < length slots
      go (keep out) e n = absurd (false≢true (subst IsSome n y))
      go (write slot out) e n = put_within slots seen.denied call s seen.asked sees.looked sees.asked slot out e

  pub answered : {slots' : List Slot} {outcome : Outcome} → WroteBack seen answer outcome slots slots' → Answered seen.denied slots call s outcome slots' reply reply'
  unfolding accepted
  answered {slots'} {outcome} b = record { does = λ kept t. go kept t (decided seen.denied call s slots).change refl w.written }
    where
      go : (kept : Bookkeeping) → names_denied kept.denied call s ≡ seen.denied → (change : Change) → (decided seen.denied call s slots).change ≡ change
          → answer.written ≡ slot_written change
          → Does (accepted (state slots kept) call s) (state slots kept) outcome (state slots' (at_clock (time_of call) kept)) reply reply'
      go kept t (keep out) e n =
          rw (t, e, b.slots_are, n)
          (does (at_time (time_of call) (state slots kept)) out (kept_done _ (decided seen.denied call s slots).place out)
          (b.outcome_is ∙ w.gives.outcome_is ∙ ap (λ (x : Change). outcome_of (out_of x)) e) refl
          (w.gives.reply_is ∙ ap (λ (x : Change). reply_after reply (out_of x)) e))
      go kept t (write slot out) e n =
          let st = at_time (time_of call) (state slots kept) in
          rw (t, e, b.slots_are, n)
          (does (with_slots (set slots (place_in seen) slot) st) out
          (ap (λ (x : Option ℕ). done st x (write slot out)) (sym (placed slots seen.denied call s seen.asked sees.looked sees.asked slot out e))
          ∙ written-done st (place_for seen.asked seen.survey) slot out (there slots seen.denied call s seen.asked sees.looked sees.asked slot out e) refl)
          (b.outcome_is ∙ w.gives.outcome_is ∙ ap (λ (x : Change). outcome_of (out_of x)) e) refl
          (w.gives.reply_is ∙ ap (λ (x : Change). reply_after reply (out_of x)) e))

-- a slot is written back, or none
module _ (slots : List Slot) (seen : Seen) (answer : Answer) {outcome : Outcome} (o : outcome ≡ answer.outcome) where
  pub none_back : answer.written ≡ None → WroteBack seen answer outcome slots slots
  none_back n = record { outcome_is = o; slots_are = rw n }

  pub one_back : {k : ℕ} {slot : Slot} {slots' : List Slot} → answer.written ≡ Some slot → k ≡ place_in seen → slots' ≡ set slots k slot
      → WroteBack seen answer outcome slots slots'
  one_back {slot} y p g = record { outcome_is = o; slots_are = rw y (g ∙ ap (λ (j : ℕ). set slots j slot) p) }

-- data writes none
pub data_back : (slots : List Slot) (seen : Seen) {outcome : Outcome} → WroteBack seen (unwritten outcome) outcome slots slots
data_back slots seen = record { outcome_is = refl; slots_are = refl }

-- the clock was set, and then it was read what the call asks
pub begun : {kept kept' : Bookkeeping} {call : Call} {s : List ℕ} {time : ℕ} {asking : Asking} → time ≡ time_of call → kept' ≡ at_clock time kept → asking ≡ asking_of kept'.denied call s
    → Begun kept call s asking kept'
begun {kept} {kept'} {call} {s} t k a = record { asking_is = a ∙ ap (λ (b : Bookkeeping). asking_of b.denied call s) k; kept_is = k ∙ ap (λ (n : ℕ). at_clock n kept) t }

-- a call that was answered by what is asked, with the clock as it was set
pub begun-answered : {asking : Asking} {slots : List Slot} {kept kept' : Bookkeeping} {call : Call} {s : List ℕ} {outcome : Outcome} {slots' : List Slot} {reply reply' : List ℕ} → Begun kept call s asking kept'
    → Answered asking.denied slots call s outcome slots' reply reply'
    → DoesAccepted slots kept call s outcome slots' kept' reply reply'
begun-answered {asking} {slots} {kept} {kept'} {call} {s} {outcome} {slots'} {reply} {reply'} b w =
    subst (λ (k : Bookkeeping). DoesAccepted slots kept call s outcome slots' k reply reply') (sym b.kept_is) (w.does kept (sym (ap (λ (x : Asking). x.denied) b.asking_is)))
