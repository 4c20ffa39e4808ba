-- The history accounts for the relay's state after every list of calls; and whom a peer's datagram reaches.
use Prim.Native.Nat.{ℕ, ◌≤◌}
use mathlib.Core.Path.{◌≡◌, refl, sym, ◌∙◌, ap}
use mathlib.Core.Logic.{◌≢◌, ◌⊎◌, inl, inr, ◌↔◌}
use mathlib.Core.Bool.{Bool, true, false, not}
use mathlib.Core.List.{List, [], ◌∷◌}
use native.Mathlib.Nat.{le_refl, not-suc-le-zero}
use lib.ListN.{length}
use Rattle.wire.proofs.Laws.{all_same}
use Rattle.choice.specs.Choice.{pick, any}
use Rattle.address.specs.declared.Address.{Address}
use Rattle.address.specs.declared.Address.TheVariants.{V4, V6}
use Rattle.address.specs.declared.FiveTuple.{FiveTuple}
use Rattle.address.specs.declared.TransportAddress.{TransportAddress}
use Rattle.address.specs.declared.TransactionId.{TransactionId}
use Rattle.slot.specs.declared.Slot.{Slot}
use Rattle.slot.specs.declared.permissions.PermissionState.{PermissionState}
use Rattle.std.specs.Prelude.{Option, Some, None}
use Rattle.slot.specs.Search.{find, has, at_or}
use Rattle.slot.specs.Slot.{fresh_slot, permission_state, holds_port}
use Rattle.table.specs.Table.{slot_at, in_slot}
use Rattle.rules.specs.declared.answer.Outcome.{Outcome}
use Rattle.refusal.specs.declared.Refusal.{Refusal}
use Rattle.refusal.specs.Refusal.{number}
use Rattle.rules.specs.declared.answer.Outcome.TheVariants.{Refused, DroppedLapsed, DroppedNever, DroppedOther, ToClient}
use Rattle.rules.specs.Change as rules
use Rattle.rules.specs.Change.{Cause, permission_lapsed, never_permitted, other_cause, dropped_for, Out, to_client, Change, keep, write}
use Rattle.decisions.specs.declared.client.Asked.{Asked}
use Rattle.rules.specs.Values.{is_ipv6}
use Rattle.data_rules.specs.Data.{permission_of, unless_dropped, relayed, peer_cause, relay_from_peer}
use Rattle.decisions.specs.Client.{asked_by}
use Rattle.interface.specs.declared.incoming.Call.{Call}
use Rattle.interface.specs.declared.incoming.Call.TheVariants.{Client, Peer}
use Rattle.interface.specs.declared.incoming.FromPeer.{FromPeer}
use Rattle.state.specs.State.{State, empty, clock_of, at_time}
use Rattle.state.specs.Outcomes.{Act, refuse, accept, outcome_of, reply_after, state_after}
use Rattle.interface.specs.Refusals.{time_of}
use Rattle.decisions.specs.Decisions.{names_denied, on_asked, decided}
use Rattle.state.specs.Step.{done, decision, accepted}
use Rattle.state.proofs.Laws.{acted}
use Rattle.relay.proofs.Laws.{not_refused}
use Rattle.history.specs.Counted.{Counted, nothing, without_repeats}
use Rattle.client_reader.specs.Fields.{Bytes}
use Rattle.history.specs.Events.{CallFits, Arrival, met, acts, outcome, replied, next, Event, Happened, Lived, counts_by, counts, counted}
use Rattle.history.specs.Statement.{Live, Apart, GoesTo, FromAddress}
use Rattle.history.proofs.Readings.{given_holder, goes→, goes←}
use Rattle.history.proofs.Table as table
use Rattle.history.proofs.Table.{HasPermission, Accounts, AccountsFor, own_port, accounts_later, Reach, reach→, reach←}
use Rattle.history.proofs.Keep.{keep as keep-accounts}
use Rattle.history.proofs.Replies.{dropped_not_sent}
use Rattle.history.proofs.Tests.{find_some, port_is, none_port, Says, lookup_says}
use Rattle.history.proofs.Made.{quiet, made_asked}

-- ---- The empty relay
none-live : (i : ℕ) → Live 0 (slot_at empty.slots i) → ⊥
unfolding fresh_slot
none-live i x = not-suc-le-zero (rw (all_same fresh_slot 64 i) at x)

pub accounts_empty : AccountsFor [] empty
accounts_empty = record {
  own = λ i j x. absurd (none-live i x);
  short = λ i x. absurd (none-live i x);
  neat = λ i x. absurd (none-live i x);
  given = λ i x. absurd (none-live i x);
  granted→ = λ i x. absurd (none-live i x);
  granted← = λ C t le g. absurd g;
  allowed→ = λ i x. absurd (none-live i x);
  allowed← = λ i x. absurd (none-live i x);
  known = λ i x. absurd (none-live i x);
}

-- ---- One call
pub refused_counts : (call : Call) (s : List ℕ) (number : ℕ) (reply : List ℕ) → counts_by call s (Refused number) reply ≡ nothing
refused_counts (Client call) s number reply = refl
refused_counts (Peer call) s number reply = refl

-- a call that is not refused sets the clock
clock_accepted : (st : State) (call : Call) (s : List ℕ) → clock_of (state_after st (accepted st call s)) ≡ time_of call
unfolding accepted
clock_accepted st call s = go (decision st call s).place (decision st call s).change
  where
    go : (found : Option ℕ) (change : Change) → clock_of (state_after st (done (at_time (time_of call) st) found change)) ≡ time_of call
    go (Some k) (keep out) = refl
    go (Some k) (write slot out) = refl
    go None change = refl

-- a peer's datagram changes no slot
pub done_keep : (st : State) (found : Option ℕ) (out : Out) → done st found (keep out) ≡ accept st out
done_keep st (Some k) out = refl
done_keep st None out = refl

peer_out : FromPeer → List Slot → List ℕ → Out
peer_out call l s =
    let found = find (in_slot (holds_port call.time call.port)) l in
    relay_from_peer call.time call.source call.id s (has found) (at_or fresh_slot found l)

peer_stays : (call : FromPeer) (st : State) (s : List ℕ) → accepted st (Peer call) s ≡ accept (at_time call.time st) (peer_out call st.slots s)
unfolding accepted decided peer_out
peer_stays call st s = done_keep (at_time call.time st) (find (in_slot (holds_port call.time call.port)) st.slots) _

-- what an accepted call does to the table
made : (call : Call) (st : State) (s reply : List ℕ) → length st.slots ≡ 64 → CallFits call → Bytes s
    → (past : List Counted) → Accounts (time_of call) (slot_at st.slots) past
    → table.Change (time_of call) (slot_at st.slots) (slot_at (state_after st (accepted st call s)).slots)
    (without_repeats past (counts_by call s (outcome_of (accepted st call s)) (reply_after reply (accepted st call s))))
unfolding accepted decided
made (Client call) st s reply full fits bytes past I = go (asked_by s) refl
  where
    denied : Bool
    denied = names_denied st.bookkeeping.denied (Client call) s

    -- an act that is not a refusal says itself what state it leaves
    same : (found : Option ℕ) (change : Change)
        → table.Change call.time (slot_at st.slots) (slot_at (state_after (at_time call.time st) (done (at_time call.time st) found change)).slots)
        (without_repeats past (counts_by (Client call) s (outcome_of (done (at_time call.time st) found change)) (reply_after reply (done (at_time call.time st) found change))))
        → table.Change call.time (slot_at st.slots) (slot_at (state_after st (done (at_time call.time st) found change)).slots)
        (without_repeats past (counts_by (Client call) s (outcome_of (done (at_time call.time st) found change)) (reply_after reply (done (at_time call.time st) found change))))
    same (Some k) (keep out) c = c
    same (Some k) (write slot out) c = c
    same None change c = c

    go : (asked : Asked) → asked_by s ≡ asked → table.Change call.time (slot_at st.slots)
        (slot_at (state_after st (done (at_time call.time st) (on_asked denied call s st.slots asked).place (on_asked denied call s st.slots asked).change)).slots)
        (without_repeats past (counts_by (Client call) s (outcome_of (done (at_time call.time st) (on_asked denied call s st.slots asked).place (on_asked denied call s st.slots asked).change))
        (reply_after reply (done (at_time call.time st) (on_asked denied call s st.slots asked).place (on_asked denied call s st.slots asked).change))))
    go asked is = same (on_asked denied call s st.slots asked).place (on_asked denied call s st.slots asked).change (made_asked call (at_time call.time st) s reply full fits bytes past I denied asked is)
made (Peer call) st s reply full fits bytes past I = rw (peer_stays call st s) (quiet call.time (slot_at st.slots))

-- what a call does to the table: nothing, where it is refused; else a change at its time, which what it counts as allows, by what was counted before
pub data Moved (st : State) (a : Arrival) (x : Act) : Type 0 where
  refused : (refusal : Refusal) → x ≡ refuse refusal → Moved st a x
  changed : clock_of st ≤ time_of a.call → clock_of (state_after st x) ≡ time_of a.call
      → ((past : List Counted) → Accounts (time_of a.call) (slot_at st.slots) past
      → table.Change (time_of a.call) (slot_at st.slots) (slot_at (state_after st x).slots)
      (without_repeats past (counts_by a.call a.datagram (outcome_of x) (reply_after a.reply x))))
      → Moved st a x

pub moves : (st : State) (a : Arrival) → Moved (met st a) a (acts st a)
moves st a =
    acted (Moved (met st a) a) (met st a) a.call a.datagram (length a.reply) (λ r. refused r refl)
    (λ e. let w = not_refused (clock_of st) st.slots a.datagram a.reply a.call e in
    changed w.not_before (clock_accepted (met st a) a.call a.datagram)
    (made a.call (met st a) a.datagram a.reply w.sixty_four a.call_fits a.bytes))

-- so what was counted accounts for the state after it
after_call : (st : State) (a : Arrival) (past : List Counted) → AccountsFor past st
    → AccountsFor (without_repeats past (counts_by a.call a.datagram (outcome st a) (replied st a)) ∷ past) (next st a)
after_call st a past I = go (acts st a) (moves st a)
  where
    go : (x : Act) → Moved (met st a) a x → AccountsFor (without_repeats past (counts_by a.call a.datagram (outcome_of x) (reply_after a.reply x)) ∷ past) (state_after (met st a) x)
    go x (refused r e) =
        rw (e, refused_counts a.call a.datagram (number r) a.reply) (keep-accounts _ _ _ _ past nothing (le_refl _) I (quiet _ _))
    go x (changed le clock c) = rw clock (keep-accounts _ (time_of a.call) _ _ past _ le I (c past (accounts_later _ _ _ past le I)))

-- ---- Every list of calls
pub happened_accounts : (before : State) (e : Event) (after : State) (past : List Counted) → Happened before e after → AccountsFor past before
    → AccountsFor (counts past e ∷ past) after
happened_accounts before e after past h I = rw (h.state_is, h.outcome_is, h.reply_is) (after_call before e.arrival past I)

pub lived_accounts : (list : List Event) (first last : State) (past : List Counted) → Lived first list last → AccountsFor past first
    → AccountsFor (counted past list) last
lived_accounts [] first last past l I = rw (← l) I
lived_accounts (e ∷ rest) first last past l I =
    lived_accounts rest l.0 last (counts past e ∷ past) l.2 (happened_accounts first e l.0 past l.1 I)

pub apart : (st : State) (past : List Counted) → AccountsFor past st → (t : ℕ) → clock_of st ≤ t → Apart st.slots t
apart st past I t le =
    let now : Accounts t (slot_at st.slots) past = accounts_later _ t _ _ le I in
    record {
      five_tuples = now.own;
      ports = own_port t _ _ now;
      permissions = λ k x. (now.neat k x).perms.one_perm;
      numbers = λ k x. (now.neat k x).chans.one_num;
      peers = λ k x. (now.neat k x).chans.one_peer;
    }

-- ---- Whom a peer's datagram reaches

-- it reaches the client whose live slot has the port and the permission; or that slot has no live one, and the cause is what its permissions say;
-- or no live slot has the port
pub data Verdict (l : List Slot) (t R : ℕ) (a : Address) (o : Outcome) : Type 0 where
  reaches : (C : FiveTuple) (n : ℕ) → o ≡ ToClient C n → Reach (slot_at l) C R a t → Verdict l t R a o
  shut : (k : ℕ) → Live t (slot_at l k) → (slot_at l k).allocation.port ≡ R → (HasPermission t a (slot_at l k).permissions → ⊥)
      → ((o ≡ DroppedLapsed) × HasPermission 0 a (slot_at l k).permissions) ⊎ ((o ≡ DroppedNever) × (HasPermission 0 a (slot_at l k).permissions → ⊥))
      → Verdict l t R a o
  nobodys : o ≡ DroppedOther → ((i : ℕ) → Live t (slot_at l i) → (slot_at l i).allocation.port ≢ R) → Verdict l t R a o

module _ (l : List Slot) (t x p R : ℕ) (id : TransactionId) (s : List ℕ) where
  abbrev call : FromPeer
  call = record { time = t; source = record { address = V4 x; port = p }; port = R; id = id }

  arrives : Verdict l t R (V4 x) (rules.outcome_of (peer_out call l s))
  unfolding peer_out relay_from_peer peer_cause any permission_of unless_dropped at_or
  arrives = go (find (in_slot (holds_port t R)) l) refl
    where
      Sent : Slot → Out
      Sent slot = to_client slot.allocation.five_tuple (relayed t call.source id s slot)

      at : (k : ℕ) → Live t (slot_at l k) → (slot_at l k).allocation.port ≡ R → (s : PermissionState) → Says t (V4 x) (slot_at l k).permissions s
          → Verdict l t R (V4 x) (rules.outcome_of (unless_dropped false s (Sent (slot_at l k))))
      at k live port PermissionState.Live p = reaches _ _ refl (record { i = k; live = live; who = refl; port = port; perm = p })
      at k live port PermissionState.Lapsed p = shut k live port p.0 (inl (refl, p.1))
      at k live port PermissionState.Never p = shut k live port p.0 (inr (refl, p.1))

      go : (f : Option ℕ) → find (in_slot (holds_port t R)) l ≡ f
          → Verdict l t R (V4 x) (rules.outcome_of (unless_dropped (pick (not (has f)) true false) (permission_state t (V4 x) (at_or fresh_slot f l).permissions) (Sent (at_or fresh_slot f l))))
      go None e = nobodys refl (none_port t R l e)
      go (Some k) e =
          let f = port_is t R (slot_at l k) (find_some (in_slot (holds_port t R)) l fresh_slot k e).0 in
          at k f.0 f.1 (permission_state t (V4 x) (slot_at l k).permissions) (lookup_says t (V4 x) (slot_at l k).permissions)

-- in a call that is not refused
module _ (st : State) (past : List Counted) (I : AccountsFor past st) (a : Arrival) (R x t : ℕ) (from : FromAddress a R (V4 x) t)
    (nr : (number : ℕ) → outcome st a ≢ Refused number) where
  pub reached : (clock_of st ≤ t) × Verdict st.slots t R (V4 x) (outcome st a)
  reached =
      rw from.2
      (acted (λ (it : Act). ((n : ℕ) → outcome_of it ≢ Refused n) → (clock_of st ≤ t) × Verdict st.slots t R (V4 x) (outcome_of it)) (met st a) c a.datagram (length a.reply)
      (λ r none. absurd (none (number r) refl))
      (λ e none. let le : clock_of st ≤ t = (not_refused (clock_of st) st.slots a.datagram a.reply c e).not_before in
      (le, rw (peer_stays _ (met st a) a.datagram) (arrives st.slots t x from.0 R from.1 a.datagram)))
      (rw from.2 at nr))
    where
      c : Call
      c = Peer (record { time = t; source = record { address = V4 x; port = from.0 }; port = R; id = from.1 })

  -- the table and the history agree on whom it reaches
  says : (C : FiveTuple) → clock_of st ≤ t → Reach (slot_at st.slots) C R (V4 x) t ↔ GoesTo past C R (V4 x) t
  says C le = (
    λ r. let g = reach→ _ _ _ I C R (V4 x) t le r in goes← _ C R (V4 x) t g.0 g.1 g.2,
    λ d. let g = goes→ _ C R (V4 x) t d in reach← _ _ _ I C R (V4 x) t le g.0 g.1 g.2,
  )

  one_holder : (C D : FiveTuple) → GoesTo past C R (V4 x) t → GoesTo past D R (V4 x) t → C ≡ D
  one_holder C D u v = given_holder past C D R (goes→ past C R (V4 x) t u).0 (goes→ past D R (V4 x) t v).0

  -- the slot with the port has no live permission, so the datagram goes to nobody
  none_reached : clock_of st ≤ t → (k : ℕ) → Live t (slot_at st.slots k) → (slot_at st.slots k).allocation.port ≡ R
      → (HasPermission t (V4 x) (slot_at st.slots k).permissions → ⊥) → (C : FiveTuple) → GoesTo past C R (V4 x) t → ⊥
  none_reached le k live port none C g =
      let r = (says C le).1 g in
      let same : r.i ≡ k = (apart st past I t le).ports r.i k r.live live (r.port ∙ sym port) in
      none (rw same at r.perm)

  why_dropped : {o : Outcome} {P Q : Type 0} → ((o ≡ DroppedLapsed) × P) ⊎ ((o ≡ DroppedNever) × Q) → (cause : Cause) × (o ≡ dropped_for cause)
  why_dropped (inl y) = (permission_lapsed, y.0)
  why_dropped (inr y) = (never_permitted, y.0)

  pub differ : {A : Type 0} {o : Outcome} {C : FiveTuple} {n : ℕ} → (cause : Cause) × (o ≡ dropped_for cause) → o ≡ ToClient C n → A
  differ d q = dropped_not_sent d.0 (sym d.1 ∙ q)

  -- it goes to C exactly when the history says so
  pub delivery : (C : FiveTuple) → ((n : ℕ) × (outcome st a ≡ ToClient C n)) ↔ GoesTo past C R (V4 x) t
  delivery C = go reached.0 reached.1
    where
      go : clock_of st ≤ t → Verdict st.slots t R (V4 x) (outcome st a)
          → ((n : ℕ) × (outcome st a ≡ ToClient C n)) ↔ GoesTo past C R (V4 x) t
      go le (reaches D n e r) =
          let d = (says D le).0 r in (
            λ u. let q : D ≡ C = same D C n u.0 (sym e ∙ u.1) in rw q at d,
            λ g. (n, e ∙ ap (λ (z : FiveTuple). ToClient z n) (one_holder D C d g)),
          )
        where
          same : (X Y : FiveTuple) (m k : ℕ) → ToClient X m ≡ ToClient Y k → X ≡ Y
          same X Y m k q = cc
      go le (shut k live port none why) = (λ u. differ (why_dropped why) u.1, λ g. absurd (none_reached le k live port none C g))
      go le (nobodys e none) = (λ u. differ (other_cause, e) u.1, λ g. let r = (says C le).1 g in absurd (none r.i r.live r.port))

  -- otherwise to nobody
  pub nobody : ((C : FiveTuple) → GoesTo past C R (V4 x) t → ⊥) → (cause : Cause) × (outcome st a ≡ dropped_for cause)
  nobody none = go reached.0 reached.1
    where
      go : clock_of st ≤ t → Verdict st.slots t R (V4 x) (outcome st a) → (cause : Cause) × (outcome st a ≡ dropped_for cause)
      go le (reaches C n e r) = absurd (none C ((says C le).0 r))
      go le (shut k live port closed why) = why_dropped why
      go le (nobodys e none) = (other_cause, e)

-- ---- 'IPv6 ..: dropped'
ipv6_out : (t : ℕ) (source : TransportAddress) (id : TransactionId) (s : List ℕ) (own : Bool) (slot : Slot) → is_ipv6 source.address ≡ true
    → rules.outcome_of (relay_from_peer t source id s own slot) ≡ DroppedOther
unfolding relay_from_peer peer_cause any unless_dropped
ipv6_out t source id s true slot e = rw e
ipv6_out t source id s false slot e = refl

pub ipv6_dropped : (st : State) (a : Arrival) (R p q r w t : ℕ) → FromAddress a R (V6 p q r w) t → ((number : ℕ) → outcome st a ≢ Refused number) → outcome st a ≡ DroppedOther
unfolding peer_out
ipv6_dropped st a R p q r w t from nr =
    rw from.2
    (acted (λ (it : Act). ((n : ℕ) → outcome_of it ≢ Refused n) → outcome_of it ≡ DroppedOther) (met st a) (Peer call) a.datagram (length a.reply) (λ r none. absurd (none (number r) refl))
    (λ e none. rw (peer_stays call (met st a) a.datagram) (ipv6_out t call.source from.1 a.datagram (has found) (at_or fresh_slot found st.slots) refl)) (rw from.2 at nr))
  where
    call : FromPeer
    call = record { time = t; source = record { address = V6 p q r w; port = from.0 }; port = R; id = from.1 }

    found : Option ℕ
    found = find (in_slot (holds_port t R)) st.slots
