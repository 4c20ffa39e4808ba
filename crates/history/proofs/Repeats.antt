-- Request 1's repeats, by what came before and what came back: one changes nothing for anybody, and tells its client the port and the moment of
-- expiry that it was given.
use Prim.Native.Nat.{ℕ, ◌+◌, ◌<◌, ◌≤◌}
use mathlib.Core.Path.{◌≡◌, refl, sym, ◌∙◌, ap}
use mathlib.Core.Logic.{◌↔◌}
use mathlib.Core.Bool.{Bool, true, false, false≢true}
use mathlib.Core.List.{List, [], ◌∷◌}
use native.Mathlib.Omega.{arith}
use native.Mathlib.Nat.{le_refl}
use lib.Dec.{eqb}
use lib.ListN.{length, take}
use borrow.Author.Tests.{le-ltb}
use Rattle.std.specs.Prelude.{Option, Some, None}
use Rattle.choice.specs.Choice.{pick}
use Rattle.address.specs.declared.FiveTuple.{FiveTuple}
use Rattle.stun.specs.declared.kinds.Method.{Method}
use Rattle.stun.specs.declared.kinds.Method.TheVariants.{Allocate, Refresh, CreatePermission, ChannelBind}
use Rattle.stun.specs.Kinds.{request_type}
use Rattle.slot.specs.declared.Slot.{Slot}
use Rattle.std.specs.Prelude.{Option, None}
use Rattle.slot.specs.Search.{has, at_or}
use Rattle.table.specs.Table.{slot_at}
use Rattle.rules.specs.declared.answer.Outcome.{Outcome}
use Rattle.rules.specs.declared.answer.Outcome.TheVariants.{Refused, DroppedLapsed, DroppedNever, DroppedOther, ToClient, ToPeer}
use Rattle.rules.specs.Change.{other_cause, Out, Change, keep, dropped, to_client, out_of, error_message, respond}
use Rattle.rules.specs.Values.{lifetime}
use Rattle.allocation_rules.specs.Allocations.{repeats, allocate_code, seconds_left, told_again, newly_made, allocate}
use Rattle.allocation_rules.specs.Allocations as rules
use Rattle.allocation_rules.proofs.Laws.{repeats_own}
use Rattle.data_rules.specs.Data.{send, send_channel_data}
use Rattle.decisions.specs.declared.client.Asked.{Asked}
use Rattle.decisions.specs.Client.{request_asks, asked_by}
use Rattle.decisions.specs.Decisions.{as_rules, own_place, slot_in, room_for, on_asked, decided}
use Rattle.decisions.proofs.Accepted.{allocates}
use Rattle.interface.specs.declared.incoming.Call.{Call}
use Rattle.interface.specs.declared.incoming.Call.TheVariants.{Client, Peer}
use Rattle.interface.specs.declared.incoming.FromClient.{FromClient}
use Rattle.interface.specs.declared.refusals.Lengths.{Lengths}
use Rattle.refusal.specs.Refusal.{number}
use Rattle.interface.specs.Refusals.{time_of, lengths, refusal}
use Rattle.state.specs.State.{State, empty, clock_of, at_time}
use Rattle.state.specs.Outcomes.{Act, refuse, accept, outcome_of, reply_after, state_after}
use Rattle.state.specs.Step.{done, accepted, act}
use Rattle.state.proofs.Laws.{acted}
use Rattle.relay.proofs.Laws.{not_refused}
use Rattle.client_reader.specs.declared.Message.{Message}
use Rattle.client_reader.specs.declared.Message.TheVariants as Reads
use Rattle.client_reader.specs.Fields.{Bytes}
use Rattle.client_reader.specs.Reader.{message_in}
use Rattle.history.specs.Counted.{Counted, gave, kept, allowed, nothing, granted}
use Rattle.history.specs.Events.{CallFits, Arrival, met, Event, Happened, Lived, asks, counts_as, read_as, counts_by, counted, acts, outcome, replied, next}
use Rattle.history.proofs.Unseen.{Unseen}
use Rattle.history.specs.Fits.{StateFits}
use Rattle.history.specs.Statement.{Live}
use Rattle.history.proofs.Readings.{Given, granted_is}
use Rattle.history.proofs.Table.{AccountsFor, accounts_later, no_lifetime}
use Rattle.history.proofs.Tests.{has_not, found_own, none_own, clash}
use Rattle.history.proofs.Asking.{asks_for, asks_no_other}
use Rattle.history.proofs.Replies.{Unaccepted, dropped_unaccepted, error_unaccepted, allocate-counts}
use Rattle.history.proofs.Made.{send_unaccepted, channelled_unaccepted}
use Rattle.history.proofs.Whole.{accounts_empty, lived_accounts, refused_counts, done_keep}
use Rattle.history.proofs.Fits.{found_fits, met_fits, empty_fits, slots_fit}

-- ---- What a repeat is

-- C's Allocate got a success response with this port and LIFETIME at t, while a lifetime that was granted to C lasted
pub record Repeat (past : List Counted) (e : Event) (C : FiveTuple) (port t seconds : ℕ) : Type 0 where
  pub answered : counts_by e.arrival.call e.arrival.datagram e.outcome e.reply ≡ gave C port t seconds
  pub lasting : granted past C t ≡ true

-- ---- What such a response says of its call

-- it is an Allocate of C, at that time
record Of (call : FromClient) (s : List ℕ) (C : FiveTuple) (t : ℕ) : Type 0 where
  who : call.five_tuple ≡ C
  when : call.time ≡ t
  asked : asks Allocate s ≡ true

-- whether it counts as an accepted Allocate
abbrev is_allocation : Counted → Bool
is_allocation (gave C port time seconds) = true
is_allocation (kept C time seconds) = false
is_allocation (allowed C addresses ends) = false
is_allocation nothing = false

never : {A : Type 0} {c : Counted} {C : FiveTuple} {port t seconds : ℕ} → is_allocation c ≡ false → c ≡ gave C port t seconds → A
never n e = absurd (false≢true (sym n ∙ ap is_allocation e))

pick_never : (b : Bool) (c : Counted) → is_allocation c ≡ false → is_allocation (pick b c nothing) ≡ false
pick_never true c n = n
pick_never false c n = refl

module _ (call : FromClient) (s : List ℕ) {C : FiveTuple} {port t seconds : ℕ} where
  message_of : (m : Message) → counts_as call s m ≡ gave C port t seconds → Of call s C t
  message_of (Reads.AllocateSuccess id relay p n client) e = go (asks Allocate s) refl e
    where
      go : (b : Bool) → asks Allocate s ≡ b → pick b (gave call.five_tuple p call.time n) nothing ≡ gave C port t seconds → Of call s C t
      go true a q = record { who = cc; when = cc; asked = a }
      go false a q = never refl q
  message_of (Reads.RefreshSuccess id n) e = never (pick_never (asks Refresh s) _ refl) e
  message_of (Reads.BareSuccess Allocate id) e = never refl e
  message_of (Reads.BareSuccess Refresh id) e = never refl e
  message_of (Reads.BareSuccess CreatePermission id) e = never (pick_never (asks CreatePermission s) _ refl) e
  message_of (Reads.BareSuccess ChannelBind id) e = never (pick_never (asks ChannelBind s) _ refl) e
  message_of (Reads.Error method id code) e = never refl e
  message_of (Reads.UnknownAttributes method id types count) e = never refl e
  message_of (Reads.DataIndication id peer p start len) e = never refl e
  message_of (Reads.ChannelData number start len) e = never refl e

  read_of : (o : Option Message) → read_as call s o ≡ gave C port t seconds → Of call s C t
  read_of None e = never refl e
  read_of (Some m) e = message_of m e

  outcome_of_lem : (o : Outcome) (reply : List ℕ) → counts_by (Client call) s o reply ≡ gave C port t seconds → Of call s C t
  outcome_of_lem (Refused number) reply e = never refl e
  outcome_of_lem DroppedLapsed reply e = never refl e
  outcome_of_lem DroppedNever reply e = never refl e
  outcome_of_lem DroppedOther reply e = never refl e
  outcome_of_lem (ToClient fiveTuple n) reply e = read_of (message_in (take n reply)) e
  outcome_of_lem (ToPeer p peer start len) reply e = never refl e

-- ---- The slot that answers a repeat
record Answered (st after : State) (C : FiveTuple) (port t seconds : ℕ) : Type 0 where
  not_before : clock_of st ≤ t
  k : ℕ
  live : Live t (slot_at st.slots k)
  who : (slot_at st.slots k).allocation.five_tuple ≡ C
  port_is : (slot_at st.slots k).allocation.port ≡ port
  left : seconds_left t (slot_at st.slots k).allocation.expiry ≡ seconds
  -- nothing changes but the clock
  same : after ≡ at_time t st

module _ (st : State) (past : List Counted) (I : AccountsFor past st) (typed : StateFits st) (C : FiveTuple) (port t seconds : ℕ) (lasts : granted past C t ≡ true) where
  -- what an act that counts as such a response does
  abbrev Answers : Call → (s reply : List ℕ) → Act → Type 0
  Answers call s reply x = counts_by call s (outcome_of x) (reply_after reply x) ≡ gave C port t seconds → Answered st (state_after st x) C port t seconds

  module _ (denied : Bool) (call : FromClient) (s reply : List ℕ) (fits : CallFits (Client call)) (bytes : Bytes s) (not_before : clock_of st ≤ call.time) where
    abbrev now : State
    now = at_time call.time st

    abbrev l : List Slot
    l = st.slots

    abbrev own : Slot
    own = slot_in l (own_place call l)

    -- what is kept and no success is none
    silent : (place : Option ℕ) (out : Out) → Unaccepted out → Answers (Client call) s reply (done now place (keep out))
    silent place out u = rw (done_keep now place out) (λ q. never (ap is_allocation (u.counts call s reply)) q)

    -- the request is no other
    other : (method : Method) → eqb (request_type Allocate) (request_type method) ≡ false → asked_by s ≡ request_asks method → (x : Act) → Answers (Client call) s reply x
    other method differ asked x q =
        let of = outcome_of_lem call s (outcome_of x) (reply_after reply x) q in
        clash _ (asks_for method s asked) (asks_no_other Allocate method s differ of.asked)

    -- a repeat is answered from the caller's own slot
    again : (place : Option ℕ) → asked_by s ≡ Asked.Allocate → repeats (as_rules call) s (has (own_place call l)) own ≡ true
        → Answers (Client call) s reply (done now place (told_again (as_rules call) s own))
    unfolding seconds_left at_or
    again place asked same = rw (done_keep now place (out_of (told_again (as_rules call) s own))) (λ q.
        let f = found_own call.time call.five_tuple l (repeats_own _ s _ own same) in
        let k : ℕ = f.0 in
        let at : own ≡ slot_at l k = ap (slot_in l) f.1 in
        let fit = (found_fits (own_place call l) l typed.slots).allocation.port in
        let said = sym (allocate-counts call s reply bytes own.allocation.port (seconds_left call.time own.allocation.expiry) fits.0 fit (omega arith) fits.1 (asks_for Allocate s asked)) ∙ q in
        let who : call.five_tuple ≡ C = cc in
        let when : call.time ≡ t = cc in
        let port_is : own.allocation.port ≡ port = cc in
        let left : seconds_left call.time own.allocation.expiry ≡ seconds = cc in
        record {
          not_before = rw (← when) not_before;
          k = k;
          live = rw (← when) f.2;
          who = f.3 ∙ who;
          port_is = rw (← at) port_is;
          left = rw (← at, ← when) left;
          same = rw (← when) refl;
        })

    allocate_answers : (place : Option ℕ) → asked_by s ≡ Asked.Allocate → Answers (Client call) s reply (done now place (allocate (as_rules call) s (room_for call l) own))
    unfolding allocate respond
    allocate_answers place asked = go (eqb code 0) refl (repeats (as_rules call) s (has (own_place call l)) own) refl
      where
        code : ℕ
        code = allocate_code (as_rules call) s (repeats (as_rules call) s (has (own_place call l)) own) (room_for call l)

        new : Change
        new = newly_made (as_rules call) s (room_for call l).port (rules.granted (lifetime s))

        -- a new allocation is for a client without a live slot, and so without a lifetime that lasts
        never_new : allocate (as_rules call) s (room_for call l) own ≡ new → (x : Act) → Answers (Client call) s reply x
        never_new w x q =
            let of = outcome_of_lem call s (outcome_of x) (reply_after reply x) q in
            let none = none_own call.time call.five_tuple l (has_not _ (allocates (as_rules call) s _ _ (room_for call l) own w).new) in
            clash _ lasts (rw (of.who, of.when) at (no_lifetime _ _ past (accounts_later _ _ _ past not_before I) call.five_tuple none))

        go : (b : Bool) → eqb code 0 ≡ b → (r : Bool) → repeats (as_rules call) s (has (own_place call l)) own ≡ r
            → Answers (Client call) s reply (done now place (pick b (pick r (told_again (as_rules call) s own) new) (keep (to_client call.five_tuple (error_message Allocate s code)))))
        go true e true same = again place asked same
        go true e false same = never_new (rw (e, same)) (done now place new)
        go false e r same = silent place (to_client call.five_tuple (error_message Allocate s code)) (error_unaccepted call.five_tuple Allocate s code)

    abbrev doing : Asked → Act
    doing asked = done now (on_asked denied call s l asked).place (on_asked denied call s l asked).change

    asked_answers : (asked : Asked) → asked_by s ≡ asked → Answers (Client call) s reply (doing asked)
    asked_answers Asked.Allocate e = allocate_answers (on_asked denied call s l Asked.Allocate).place e
    asked_answers Asked.Refresh e = other Refresh refl e (doing Asked.Refresh)
    asked_answers Asked.CreatePermission e = other CreatePermission refl e (doing Asked.CreatePermission)
    asked_answers Asked.ChannelBind e = other ChannelBind refl e (doing Asked.ChannelBind)
    asked_answers Asked.Send e = silent (own_place call l) (send (as_rules call) s (has (own_place call l)) own) (send_unaccepted (as_rules call) s _ _)
    asked_answers Asked.ChannelData e =
        silent (own_place call l) (send_channel_data (as_rules call) s (has (own_place call l)) own) (channelled_unaccepted (as_rules call) s _ _)
    asked_answers Asked.Nothing e = silent None (dropped other_cause) (dropped_unaccepted other_cause)

  call_answered : (call : Call) (s reply : List ℕ) → CallFits call → Bytes s → clock_of st ≤ time_of call → Answers call s reply (accepted st call s)
  unfolding accepted decided
  call_answered (Client call) s reply fits bytes le q = asked_answers _ call s reply fits bytes le (asked_by s) refl q
  call_answered (Peer call) s reply fits bytes le q = never refl q

  answered_by : (a : Arrival) → Answers a.call a.datagram a.reply (act st a.call a.datagram (length a.reply))
  answered_by a =
      acted (Answers a.call a.datagram a.reply) st a.call a.datagram (length a.reply) (λ r q. never (ap is_allocation (refused_counts a.call a.datagram (number r) a.reply)) q)
      (λ e q. let w = not_refused (clock_of st) st.slots a.datagram a.reply a.call e in
      call_answered a.call a.datagram a.reply a.call_fits a.bytes w.not_before q)

-- after a list of calls to an empty relay
repeat_answered : (list : List Event) (st after : State) (e : Event) → Lived empty list st → Happened st e after → (C : FiveTuple) (port t seconds : ℕ)
    → Repeat (counted [] list) e C port t seconds → Answered (met st e.arrival) after C port t seconds
repeat_answered list st after e lived h C port t seconds r =
    rw h.state_is
    (answered_by (met st e.arrival) (counted [] list) (lived_accounts list empty st [] lived accounts_empty) (met_fits st e.arrival (slots_fit list empty st lived empty_fits)) C port t seconds r.lasting e.arrival
    (rw (h.outcome_is, h.reply_is) at r.answered))

-- ---- The clock alone

-- none of these calls comes before t
abbrev pub NoneBefore : ℕ → List Arrival → Type 0
NoneBefore t [] = Unit
NoneBefore t (a ∷ rest) = (t ≤ time_of a.call) × NoneBefore t rest

-- a call is refused alike at two clocks that it does not come before
refused_alike : (clock other : ℕ) (l : Lengths) (call : Call) → clock ≤ time_of call → other ≤ time_of call → refusal clock l call ≡ refusal other l call
unfolding refusal
refused_alike clock other l call le le' = rw (le-ltb (time_of call) clock le, le-ltb (time_of call) other le')

-- and does alike
acts_alike : (st : State) (u : ℕ) (a : Arrival) → clock_of st ≤ time_of a.call → u ≤ time_of a.call → acts (at_time u st) a ≡ acts st a
unfolding act accepted
acts_alike st u a le le' =
    rw (refused_alike u (clock_of st) (lengths (length st.slots) (length a.datagram) (length a.reply)) a.call le' le)

clock_unseen : (later : List Arrival) (st : State) (u t : ℕ) → clock_of st ≤ t → u ≤ t → NoneBefore t later → Unseen st (at_time u st) later
clock_unseen [] st u t le le' none = record { answers = refl; state = refl }
clock_unseen (a ∷ later) st u t le le' none =
    let alike = acts_alike st u a (omega (arith, none.0)) (omega (arith, none.0)) in
    let r = on (clock_unseen later (met st a) u t le le' none.1) (acts st a) in
    record { answers = rw alike (ap (λ (l : List Event). event ∷ l) r.answers); state = rw alike r.state }
  where
    event : Event
    event = record { arrival = a; outcome = outcome st a; reply = replied st a }

    on : Unseen (met st a) (at_time u (met st a)) later → (x : Act) → Unseen (state_after (met st a) x) (state_after (at_time u (met st a)) x) later
    on unseen (refuse refusal) = unseen
    on unseen (accept next out) = record { answers = refl; state = refl }

-- ---- The two corollaries

-- a repeat changes nothing for anybody: the relay after it is as it met it but for the clock, and answers every later list of calls as if it had not
-- come
pub repeat_unseen : (list : List Event) (st after : State) (e : Event) → Lived empty list st → Happened st e after → (C : FiveTuple) (port t seconds : ℕ)
    → Repeat (counted [] list) e C port t seconds → (after ≡ at_time t (met st e.arrival)) × ((later : List Arrival) → NoneBefore t later → Unseen (met st e.arrival) after later)
repeat_unseen list st after e lived h C port t seconds r =
    let x = repeat_answered list st after e lived h C port t seconds r in
    (x.same, λ later none. rw x.same (clock_unseen later (met st e.arrival) t t x.not_before (le_refl t) none))

-- what C was told: its latest accepted Allocate gave this port, which nobody was given after it, and from t on the last lifetime granted to C, by
-- that Allocate or a Refresh since, lasts until just this second
pub record Told (past : List Counted) (C : FiveTuple) (port t ends : ℕ) : Type 0 where
  pub given : Given past C port
  pub until : (u : ℕ) → t ≤ u → (granted past C u ≡ true) ↔ (u < ends)

-- the port and the moment of expiry that a client works out from a repeat's reply are those of its first reply and the Refreshes since
pub repeat_tells : (list : List Event) (st after : State) (e : Event) → Lived empty list st → Happened st e after → (C : FiveTuple) (port t seconds : ℕ)
    → Repeat (counted [] list) e C port t seconds → Told (counted [] list) C port t (t + seconds)
unfolding seconds_left
repeat_tells list st after e lived h C port t seconds r = record { given = rw (x.who, x.port_is) at (I.given x.k was); until = λ u le. (to u le, from u le) }
  where
    past : List Counted
    past = counted [] list

    I : AccountsFor past st
    I = lived_accounts list empty st [] lived accounts_empty

    x : Answered (met st e.arrival) after C port t seconds
    x = repeat_answered list st after e lived h C port t seconds r

    was : Live (clock_of st) (slot_at st.slots x.k)
    was = omega (arith, x.live, x.not_before)

    ends : (slot_at st.slots x.k).allocation.expiry ≡ t + seconds
    ends = omega (arith, x.live, x.left, x.not_before, I.short x.k was)

    -- where a lifetime lasts there is a live slot, and the client has only this one
    to : (u : ℕ) → t ≤ u → granted past C u ≡ true → u < t + seconds
    to u le g =
        let f = I.granted← C u (omega (arith, x.not_before)) ((granted_is past C u).0 g) in
        let same : f.0 ≡ x.k = I.own f.0 x.k (omega (arith, f.2, x.not_before)) was (f.1 ∙ sym x.who) in
        rw (same, ends) at f.2

    from : (u : ℕ) → t ≤ u → u < t + seconds → granted past C u ≡ true
    from u le lt = (granted_is past C u).1 (rw x.who at (I.granted→ x.k was u (omega (arith, x.not_before)) (rw ends lt)))
