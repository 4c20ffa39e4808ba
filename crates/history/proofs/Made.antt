-- Every call's act is a change of the table that what it counts as allows.
use Prim.Native.Nat.{ℕ, ◌+◌, ◌<◌}
use mathlib.Core.Path.{◌≡◌, refl, sym, ◌∙◌}
use mathlib.Core.Logic.{◌⊎◌, inl, inr}
use mathlib.Core.Bool.{Bool, true, false, true≢false, false≢true}
use mathlib.Core.List.{List, [], ◌∷◌, Memᴰ}
use native.Mathlib.Omega.{arith}
use native.Mathlib.Nat.{not-suc-le-zero}
use lib.Dec.{eqb}
use lib.ListN.{length, set}
use lib.Seq.{get_or-set_same, get_or-set_other}
use borrow.Author.Tests.{eqb-true, eqb-false}
use Rattle.std.proofs.Common.{Option}
use Rattle.choice.specs.Choice.{pick}
use Rattle.address.specs.declared.Address.{Address}
use Rattle.address.specs.declared.FiveTuple.{FiveTuple}
use Rattle.stun.specs.declared.kinds.Method.{Method}
use Rattle.stun.specs.declared.kinds.Method.TheVariants.{Allocate, Refresh, CreatePermission, ChannelBind}
use Rattle.address.specs.declared.TransportAddress.{TransportAddress}
use Rattle.stun.specs.Values.{transaction_id_of, peer_or_nobody, peers, first_peer}
use Rattle.slot.specs.declared.Slot.{Slot}
use Rattle.std.specs.Prelude.{Option, Some, None}
use Rattle.slot.specs.Search.{find, has, at_or}
use Rattle.slot.specs.Slot.{fresh_slot, holds}
use Rattle.table.specs.Table.{slot_at, in_slot, lapsed}
use Rattle.rules.specs.declared.requests.ClientCall.{ClientCall}
use Rattle.rules.specs.Change.{other_cause, Out, dropped, to_client, Change, keep, write, error_message, respond}
use Rattle.rules.specs.Values.{lifetime, channel_number, number_given, none}
use Rattle.allocation_rules.specs.Allocations.{repeats, allocate_code, allocated, told_again, newly_made, allocate, renewed, refreshed, refresh, granted, granted_refresh}
use Rattle.permission_rules.specs.Permissions.{create_permission, channel_bind}
use Rattle.data_rules.specs.Data.{send, send_channel_data}
use Rattle.data_rules.proofs.Laws.{send_is, channelled_is}
use Rattle.decisions.specs.declared.client.Asked.{Asked}
use Rattle.decisions.specs.Client.{asked_by}
use Rattle.rules.proofs.Laws.{kept_not_written}
use Rattle.allocation_rules.proofs.Laws.{repeats_own, granted_refresh_small}
use Rattle.decisions.proofs.Accepted.{allocates, refreshes, permits, binds, granted_range}
use Rattle.interface.specs.declared.incoming.Call.TheVariants.{Client}
use Rattle.interface.specs.declared.incoming.FromClient.{FromClient}
use Rattle.state.specs.State.{State, with_slots}
use Rattle.state.specs.Outcomes.{Act, accept, outcome_of, reply_after, state_after}
use Rattle.decisions.specs.Decisions.{as_rules, own_place, slot_in, room_for, on_asked}
use Rattle.state.specs.Step.{done}
use Rattle.client_reader.specs.Fields.{Bytes}
use Rattle.history.specs.Counted.{Counted, without_repeats}
use Rattle.history.specs.Events.{CallFits, addresses_of, counts_by}
use Rattle.history.specs.Statement.{Live}
use Rattle.history.proofs.Table as table
use Rattle.history.proofs.Table.{View, Frame, Quiet, Accounts, has-lifetime, no_lifetime}
use Rattle.history.proofs.Tests.{find_some, has_not, own_is, found_own, lapsed_is, none_own, none_port}
use Rattle.history.proofs.Entries.{Admits, all_admitted, bound_admitted, fresh_bare, fresh_neat}
use Rattle.history.proofs.Asking.{asks_for}
use Rattle.history.proofs.FreePort.{port-free, port-fits}
use Rattle.history.proofs.Replies.{Unaccepted, dropped_unaccepted, to_peer_unaccepted, error_unaccepted, allocate-counts, refresh-counts, permission_counts, channel_counts, left_out}

pub quiet : (t : ℕ) (v : View) → Quiet t v v
quiet t v = record { before = λ i x. refl; after = λ i x. refl }

-- ---- What is kept counts as nothing
pub record Keeps (change : Change) : Type 0 where
  pub quietly : (out : Out) → change ≡ keep out → Unaccepted out

keeps : (out : Out) → Unaccepted out → Keeps (keep out)
keeps out u = record { quietly = λ o e. go o (same o e) u }
  where
    same : (o : Out) → keep out ≡ keep o → out ≡ o
    same o e = cc

    go : (o : Out) → out ≡ o → Unaccepted out → Unaccepted o
    go o e u = rw e at u

writes : (slot : Slot) (out : Out) → Keeps (write slot out)
writes slot out = record { quietly = λ o e. kept_not_written (sym e) }

respond_keeps : (fiveTuple : FiveTuple) (method : Method) (s : List ℕ) (code : ℕ) (slot : Slot) (out : Out) → Keeps (respond fiveTuple method s code (write slot out))
unfolding respond
respond_keeps fiveTuple method s code slot out = go (eqb code 0)
  where
    go : (b : Bool) → Keeps (pick b (write slot out) (keep (to_client fiveTuple (error_message method s code))))
    go true = writes slot out
    go false = keeps _ (error_unaccepted fiveTuple method s code)

-- a request that was accepted names an address
some_address : (l : List (Option TransportAddress)) → none l ≡ false → (a : Address) × Memᴰ a (addresses_of l)
some_address [] e = absurd (true≢false e)
some_address (v ∷ l) e = ((peer_or_nobody v).address, Memᴰ.head refl)

module _ (call : FromClient) (st : State) (s reply : List ℕ) (full : length st.slots ≡ 64) (fits : CallFits (Client call)) (bytes : Bytes s)
    (past : List Counted) (I : Accounts call.time (slot_at st.slots) past) where
  abbrev l : List Slot
  l = st.slots

  -- the caller's own slot, or a fresh one
  abbrev own : Slot
  own = slot_in l (own_place call l)

  -- what an act does to the table, and what it counts as
  abbrev pub Made : Act → Type 0
  Made x = table.Change call.time (slot_at l) (slot_at (state_after st x).slots) (without_repeats past (counts_by (Client call) s (outcome_of x) (reply_after reply x)))

  -- a slot of the table is written
  abbrev put : ℕ → Slot → Out → Act
  put k slot out = accept (with_slots (set l k slot) st) out

  made_stay : (out : Out) → Unaccepted out → Made (accept st out)
  made_stay out u = rw (u.counts call s reply) (quiet call.time (slot_at l))

  -- where no slot was found nothing is written
  made_done : (found : Option ℕ) (change : Change) → ((out : Out) → change ≡ keep out → Made (accept st out)) → ((slot : Slot) (out : Out) → change ≡ write slot out → has found ≡ true)
      → ((k : ℕ) → found ≡ Some k → (slot : Slot) (out : Out) → change ≡ write slot out → Made (put k slot out)) → Made (done st found change)
  made_done (Some k) (keep out) q h f = q out refl
  made_done (Some k) (write slot out) q h f = f k refl slot out refl
  made_done None (keep out) q h f = q out refl
  made_done None (write slot out) q h f = absurd (false≢true (h slot out refl))

  put_frame : (k : ℕ) (slot : Slot) → Frame call.time k (slot_at l) (slot_at (set l k slot))
  put_frame k slot = record { before = λ i ne x. get_or-set_other l k i slot fresh_slot ne; after = λ i ne x. get_or-set_other l k i slot fresh_slot ne }

  put_same : (k : ℕ) (slot : Slot) → k < length l → slot_at (set l k slot) k ≡ slot
  put_same k slot h = get_or-set_same l k slot fresh_slot h

  -- ---- Allocate
  module _ (asked : asked_by s ≡ Asked.Allocate) (k : ℕ) (found : find (in_slot (lapsed call.time)) l ≡ Some k) (slot : Slot) (out : Out)
      (e : allocate (as_rules call) s (room_for call l) own ≡ write slot out) where
    takes : Made (put k slot out)
    unfolding allocated fresh_slot
    takes =
        let r = allocates (as_rules call) s slot out (room_for call l) own e in
        let new = none_own call.time call.five_tuple l (has_not _ r.new) in
        let f = find_some (in_slot (lapsed call.time)) l fresh_slot k found in
        let range = granted_range (lifetime s) in
        let port = (room_for call l).port in
        let is : slot_at (set l k slot) k ≡ allocated (as_rules call) (transaction_id_of s) port (granted (lifetime s)) = put_same k slot f.1 ∙ r.slot_is in
        rw (r.out_is, allocate-counts call s reply bytes port (granted (lifetime s)) fits.0 (port-fits _ _) (omega arith) fits.1 (asks_for Allocate s asked), no_lifetime _ _ past I call.five_tuple new) (
          refl,
          record {
            k = k;
            frame = put_frame k slot;
            free = λ x. let y = lapsed_is call.time (slot_at l k) f.0 in omega arith;
            new_who = new;
            new_port = none_port call.time port l (port-free call.time call.start l full);
            who = rw is;
            port = rw is;
            until = rw is;
            some_time = λ (z : granted (lifetime s) ≡ 0). omega arith;
            an_hour = range.1;
            bare = rw is (fresh_bare 8);
            neat = rw is (fresh_neat 8 8 call.time);
          },
        )

  -- a repeat's client has a live slot, and so a lifetime that lasts
  repeated_made : asked_by s ≡ Asked.Allocate → repeats (as_rules call) s (has (own_place call l)) own ≡ true → (out : Out) → Made (accept st out)
  repeated_made asked again out =
      let f = found_own call.time call.five_tuple l (repeats_own _ s _ own again) in
      rw (left_out call s past (asks_for Allocate s asked) (has-lifetime _ _ past I call.five_tuple f.0 f.2 f.3) out reply)
      (quiet call.time (slot_at l))

  allocate_stays : asked_by s ≡ Asked.Allocate → (out : Out) → allocate (as_rules call) s (room_for call l) own ≡ keep out → Made (accept st out)
  unfolding allocate
  allocate_stays asked out e = go (repeats (as_rules call) s (has (own_place call l)) own) refl e
    where
      go : (again : Bool) → repeats (as_rules call) s (has (own_place call l)) own ≡ again
          → respond call.five_tuple Allocate s (allocate_code (as_rules call) s again (room_for call l)) (pick again (told_again (as_rules call) s own) (newly_made (as_rules call) s (room_for call l).port (granted (lifetime s)))) ≡ keep out
          → Made (accept st out)
      go true is q = repeated_made asked is out
      go false is q = made_stay out ((respond_keeps _ _ s _ _ _).quietly out q)

  made_allocate : asked_by s ≡ Asked.Allocate → Made (done st (find (in_slot (lapsed call.time)) l) (allocate (as_rules call) s (room_for call l) own))
  made_allocate asked =
      made_done (find (in_slot (lapsed call.time)) l) (allocate (as_rules call) s (room_for call l) own) (allocate_stays asked)
      (λ slot out e. (allocates (as_rules call) s slot out (room_for call l) own e).room)
      (takes asked)

  -- ---- The requests about the caller's own slot
  module _ (k : ℕ) (room : k < length l) (live : Live call.time (slot_at l k)) (mine : (slot_at l k).allocation.five_tuple ≡ call.five_tuple)
      (own : Bool) (slot : Slot) (out : Out) where
    refreshed_made : asked_by s ≡ Asked.Refresh → refresh (as_rules call) s own (slot_at l k) ≡ write slot out → Made (put k slot out)
    unfolding refreshed renewed fresh_slot
    refreshed_made asked e =
        let r = refreshes (as_rules call) s slot out own (slot_at l k) e in
        rw (r.out_is, refresh-counts call s reply bytes seconds (omega (arith, granted_refresh_small (lifetime s))) (asks_for Refresh s asked))
        (refl, go (eqb seconds 0) refl (put_same k slot room ∙ r.slot_is))
      where
        seconds : ℕ
        seconds = granted_refresh (lifetime s)

        go : (b : Bool) → eqb seconds 0 ≡ b → slot_at (set l k slot) k ≡ pick b fresh_slot (renewed (call.time + seconds) (slot_at l k))
            → table.Renew call.time (slot_at l) (slot_at (set l k slot)) call.five_tuple seconds
            ⊎ table.End call.time (slot_at l) (slot_at (set l k slot)) call.five_tuple seconds
        go true z is =
            inr (record { k = k; frame = put_frame k slot; live = live; mine = mine; gone = rw is not-suc-le-zero; no_time = eqb-true _ _ z })
        go false z is =
            inl
            (record {
              k = k;
              frame = put_frame k slot;
              live = live;
              mine = mine;
              who = rw is;
              port = rw is;
              perms = rw is;
              chans = rw is;
              until = rw is;
              some_time = eqb-false _ _ z;
              an_hour = granted_refresh_small (lifetime s);
            })

    -- a request for these addresses made this slot
    admitted : (xs : List Address) (made : Slot) → (a : Address) × Memᴰ a xs → slot ≡ made → Admits call.time xs (slot_at l k) made
        → table.Admit call.time (slot_at l) (slot_at (set l k slot)) call.five_tuple xs
    admitted xs made some e x =
        let is : slot_at (set l k slot) k ≡ made = put_same k slot room ∙ e in
        let g = x.grants in
        record {
          k = k;
          frame = put_frame k slot;
          live = live;
          mine = mine;
          who = rw (is, x.allocation_is);
          port = rw (is, x.allocation_is);
          until = rw (is, x.allocation_is);
          neat = λ n. rw is (record { perms = g.neat n.perms; chans = x.channels_neat n.chans });
          some = some;
          perms→ = rw is g.to;
          perms← = rw is (λ n. g.from n.perms);
        }

    permitted_made : (denied : Bool) → asked_by s ≡ Asked.CreatePermission → create_permission (as_rules call) s denied own (slot_at l k) ≡ write slot out → Made (put k slot out)
    permitted_made denied asked e =
        let r = permits (as_rules call) s slot out own (slot_at l k) e in
        rw (r.out_is, permission_counts call s reply bytes (asks_for CreatePermission s asked))
        (refl, admitted _ _ (some_address (peers s) r.some_peer) r.slot_is (all_admitted call.time (peers s) (slot_at l k) r.room))

    bound_made : (denied : Bool) → asked_by s ≡ Asked.ChannelBind → channel_bind (as_rules call) s denied own (slot_at l k) ≡ write slot out → Made (put k slot out)
    bound_made denied asked e =
        let r = binds (as_rules call) s slot out own (slot_at l k) e in
        rw (r.out_is, channel_counts call s reply bytes (asks_for ChannelBind s asked))
        (refl, admitted _ _ ((peer_or_nobody (first_peer s)).address, Memᴰ.head refl) r.slot_is (bound_admitted call.time (number_given (channel_number s)) (peer_or_nobody (first_peer s)) (slot_at l k) r.peer_free r.permitted r.bound_ok))

-- ---- What is given out without a change of the slot counts as nothing
pub send_unaccepted : (call : ClientCall) (s : List ℕ) (own : Bool) (slot : Slot) → Unaccepted (send call s own slot)
send_unaccepted call s own slot = send_is Unaccepted dropped_unaccepted call s own slot (λ value e live. to_peer_unaccepted _ _ value.start value.len)

pub channelled_unaccepted : (call : ClientCall) (s : List ℕ) (own : Bool) (slot : Slot) → Unaccepted (send_channel_data call s own slot)
channelled_unaccepted call s own slot = channelled_is Unaccepted dropped_unaccepted call s own slot (λ message e there. to_peer_unaccepted _ _ message.start message.len)

-- ---- A client's datagram
module _ (call : FromClient) (st : State) (s reply : List ℕ) (full : length st.slots ≡ 64) (fits : CallFits (Client call)) (bytes : Bytes s)
    (past : List Counted) (I : Accounts call.time (slot_at st.slots) past) where
  found : Option ℕ
  found = own_place call st.slots

  abbrev Makes : Act → Type 0
  Makes x = Made call st s reply full fits bytes past I x

  -- a rule about the caller's own slot, which writes it only where there is one
  made_own : (rule : Bool → Slot → Change) → Keeps (rule (has found) (at_or fresh_slot found st.slots))
      → ((slot : Slot) (out : Out) → rule (has found) (at_or fresh_slot found st.slots) ≡ write slot out → has found ≡ true)
      → ((k : ℕ) → k < length st.slots → Live call.time (slot_at st.slots k) → (slot_at st.slots k).allocation.five_tuple ≡ call.five_tuple
      → (slot : Slot) (out : Out) → rule true (slot_at st.slots k) ≡ write slot out → Makes (accept (with_slots (set st.slots k slot) st) out))
      → Makes (done st found (rule (has found) (at_or fresh_slot found st.slots)))
  unfolding found at_or
  made_own rule q h f =
      made_done call st s reply full fits bytes past I found (rule (has found) (at_or fresh_slot found st.slots))
      (λ out e. made_stay call st s reply full fits bytes past I out (q.quietly out e)) h at
    where
      at : (k : ℕ) → found ≡ Some k → (slot : Slot) (out : Out) → rule (has found) (at_or fresh_slot found st.slots) ≡ write slot out
          → Makes (accept (with_slots (set st.slots k slot) st) out)
      at k e slot out w =
          let g = find_some (in_slot (holds call.time call.five_tuple)) st.slots fresh_slot k e in
          let o = own_is call.time call.five_tuple (slot_at st.slots k) g.0 in
          f k g.1 o.0 o.1 slot out (rw e at w)

  made_data : (rule : Bool → Slot → Out) → ((own : Bool) (slot : Slot) → Unaccepted (rule own slot))
      → Makes (done st found (keep (rule (has found) (at_or fresh_slot found st.slots))))
  made_data rule u =
      made_own (λ own slot. keep (rule own slot)) (keeps _ (u _ _)) (λ slot out e. kept_not_written e) (λ k room live mine slot out e. kept_not_written e)

  pub made_asked : (denied : Bool) (asked : Asked) → asked_by s ≡ asked → Makes (done st (on_asked denied call s st.slots asked).place (on_asked denied call s st.slots asked).change)
  unfolding found refresh create_permission channel_bind
  made_asked denied Asked.Allocate is = made_allocate call st s reply full fits bytes past I is
  made_asked denied Asked.Refresh is =
      made_own (refresh (as_rules call) s) (respond_keeps _ _ s _ _ _) (λ slot out e. (refreshes (as_rules call) s slot out _ _ e).owner.live)
      (λ k room live mine slot out e. refreshed_made call st s reply full fits bytes past I k room live mine true slot out is e)
  made_asked denied Asked.CreatePermission is =
      made_own (create_permission (as_rules call) s denied) (respond_keeps _ _ s _ _ _) (λ slot out e. (permits (as_rules call) s slot out _ _ e).owner.live)
      (λ k room live mine slot out e. permitted_made call st s reply full fits bytes past I k room live mine true slot out denied is e)
  made_asked denied Asked.ChannelBind is =
      made_own (channel_bind (as_rules call) s denied) (respond_keeps _ _ s _ _ _) (λ slot out e. (binds (as_rules call) s slot out _ _ e).owner.live)
      (λ k room live mine slot out e. bound_made call st s reply full fits bytes past I k room live mine true slot out denied is e)
  made_asked denied Asked.Send is = made_data (send (as_rules call) s) (send_unaccepted (as_rules call) s)
  made_asked denied Asked.ChannelData is = made_data (send_channel_data (as_rules call) s) (channelled_unaccepted (as_rules call) s)
  made_asked denied Asked.Nothing is = made_stay call st s reply full fits bytes past I (dropped other_cause) (dropped_unaccepted other_cause)
