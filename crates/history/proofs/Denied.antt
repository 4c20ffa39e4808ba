-- Request 2: where every call of a list meets the tree of one text, nothing passes between a client and an address that the text denies.
use Prim.Native.Nat.{ℕ, ◌<◌, ◌^◌}
use mathlib.Core.Path.{◌≡◌, refl, sym, ◌∙◌}
use mathlib.Core.Bool.{Bool, true, false, false≢true}
use mathlib.Core.List.{List, [], ◌∷◌, ◌++◌}
use native.Mathlib.Omega.{arith}
use lib.Dec.{eqb}
use lib.ListN.{length}
use Rattle.std.proofs.Common.{Option}
use Rattle.wire.proofs.Laws.{all_same}
use Rattle.choice.specs.Choice.{any}
use Rattle.choice.proofs.Laws.{chosen}
use Rattle.address.specs.declared.Address.{Address}
use Rattle.address.specs.declared.Address.TheVariants.{V4}
use Rattle.address.specs.declared.FiveTuple.{FiveTuple}
use Rattle.address.specs.declared.TransportAddress.{TransportAddress}
use Rattle.address.specs.declared.TransactionId.{TransactionId}
use Rattle.stun.specs.declared.kinds.Method.{Method}
use Rattle.stun.specs.Values.{peer_or_nobody, peers, first_peer}
use Rattle.slot.specs.declared.Slot.{Slot}
use Rattle.slot.specs.declared.Permission.{Permission}
use Rattle.slot.specs.declared.permissions.PermissionState.TheVariants.{Live}
use Rattle.slot.specs.declared.Channel.{Channel}
use Rattle.std.specs.Prelude.{Option, Some, None}
use Rattle.slot.specs.Search.{find, at_or}
use Rattle.slot.specs.Slot.{fresh_permission, fresh_channel, fresh_slot, permission_entry, permit, channel_entry, bind, numbered}
use Rattle.table.specs.Table.{slot_at}
use Rattle.rules.specs.declared.answer.Outcome.TheVariants.{ToClient, ToPeer}
use Rattle.rules.specs.Change.{Out, dropped, to_client, to_peer, Change, keep, write, out_of, respond}
use Rattle.rules.proofs.Laws.{kept_not_written}
use Rattle.allocation_rules.specs.Allocations.{Room, repeats, allocated, allocate, renewed, refresh}
use Rattle.permission_rules.specs.Permissions.{create_permission, bound, channel_bind}
use Rattle.permission_rules.specs.Denials.{denied_address, denied_peer}
use Rattle.data_rules.specs.Data.{permission_of, send, send_channel_data, relay_from_peer}
use Rattle.data_rules.proofs.Laws.{send_is, channelled_is, from_peer_is}
use Rattle.denied.specs.Prefixes.{covered}
use Rattle.denied.specs.Tree.{denied}
use Rattle.denied.specs.Denied.{prefixes_of, read_denied}
use Rattle.denied.proofs.Theorem.{denied_exactly}
use Rattle.decisions.specs.declared.client.Asked.{Asked}
use Rattle.decisions.specs.Client.{asked_by}
use Rattle.decisions.specs.Decisions.{as_rules, slot_in, room_for, asks_denied, names_denied, on_asked, decided}
use Rattle.decisions.proofs.Accepted.{allocates, refreshes, permits, binds}
use Rattle.interface.specs.declared.incoming.Call.{Call}
use Rattle.interface.specs.declared.incoming.Call.TheVariants.{Client, Peer}
use Rattle.interface.specs.declared.incoming.FromClient.{FromClient}
use Rattle.interface.specs.declared.incoming.FromPeer.{FromPeer}
use Rattle.interface.specs.Refusals.{time_of}
use Rattle.state.specs.State.{State, empty, at_time, meeting}
use Rattle.state.specs.Outcomes.{Act, refuse, accept, outcome_of, state_after}
use Rattle.state.specs.Step.{done, decision, accepted, act}
use Rattle.state.proofs.Laws.{acted}
use Rattle.history.specs.Events.{Arrival, met, acts, outcome, Event, Lived}
use Rattle.history.specs.Statement.{permission_at, channel_at}
use Rattle.history.specs.Denied.{AllMeet, KeptOut}
use Rattle.history.proofs.Demand.{lived_middle}
use Rattle.history.proofs.Slots.{place_keeps, found_keeps, MayPermit, permits_keep, refreshed_keeps, Writes, next_keeps}
use Rattle.history.proofs.Replies.{dropped_not_sent, dropped_not_relayed}
use Rattle.history.proofs.Tests.{find_some, has_at, lookup_says, numbered_is}

-- no call changes the tree
pub tree_stays : (st : State) (call : Call) (s : List ℕ) (reply : ℕ) → (state_after st (act st call s reply)).bookkeeping.denied ≡ st.bookkeeping.denied
unfolding accepted
tree_stays st call s reply =
    acted (λ (x : Act). (state_after st x).bookkeeping.denied ≡ st.bookkeeping.denied) st call s reply (λ number. refl) (λ e. go (decision st call s).place (decision st call s).change)
  where
    go : (found : Option ℕ) (change : Change) → (state_after st (done (at_time (time_of call) st) found change)).bookkeeping.denied ≡ st.bookkeeping.denied
    go (Some k) (keep out) = refl
    go (Some k) (write slot out) = refl
    go None change = refl

-- ---- The slots: no permission and no channel is for a denied address

module _ (nodes : List ℕ) where
  abbrev Reachable : Address → Type 0
  Reachable a = denied_address nodes a ≡ false

  -- an entry that was ever made
  abbrev OpenPermission : Permission → Type 0
  OpenPermission permission = 0 < permission.expiry → Reachable permission.address

  abbrev OpenChannel : Channel → Type 0
  OpenChannel channel = 0 < channel.expiry → Reachable channel.peer.address

  record Clean (slot : Slot) : Type 0 where
    permissions : (i : ℕ) → OpenPermission (permission_at slot.permissions i)
    channels : (i : ℕ) → OpenChannel (channel_at slot.channels i)

  never_made : {P : Type 0} → 0 < 0 → P
  never_made h = let y : ⊥ = omega arith in absurd y

  fresh_clean : Clean fresh_slot
  unfolding fresh_slot
  fresh_clean = record {
    permissions = λ i. rw (all_same fresh_permission 8 i) never_made;
    channels = λ i. rw (all_same fresh_channel 8 i) never_made;
  }

  permit_clean : (t : ℕ) (a : Address) → Reachable a → (slot : Slot) → Clean slot → Clean (permit t a slot).slot
  unfolding permit
  permit_clean t a h slot f = record {
    permissions = place_keeps OpenPermission fresh_permission _ (λ _. h) (permission_entry t a slot.permissions) slot.permissions f.permissions;
    channels = f.channels;
  }

  bind_clean : (t number : ℕ) (peer : TransportAddress) → Reachable peer.address → (slot : Slot) → Clean slot → Clean (bind t number peer slot).slot
  unfolding bind
  bind_clean t number peer h slot f = record {
    permissions = f.permissions;
    channels = place_keeps OpenChannel fresh_channel _ (λ _. h) (channel_entry t number slot.channels) slot.channels f.channels;
  }

  -- where none of the addresses is denied, each may be permitted
  peers_permitted : (t : ℕ) (l : List (Option TransportAddress)) → any (denied_peer nodes) l ≡ false → MayPermit Clean t l
  unfolding any
  peers_permitted t [] e = tt
  peers_permitted t (v ∷ l) e =
      chosen (λ (b : Bool). b ≡ false → MayPermit Clean t (v ∷ l)) (denied_peer nodes v) (λ d q. absurd (false≢true (sym q)))
      (λ d q. (permit_clean t (peer_or_nobody v).address d, peers_permitted t l q)) e

  renewed_clean : (expiry : ℕ) (slot : Slot) → Clean slot → Clean (renewed expiry slot)
  unfolding renewed
  renewed_clean expiry slot f = record { permissions = f.permissions; channels = f.channels }

  module _ (call : FromClient) (s : List ℕ) (l : List Slot) (were : (i : ℕ) → Clean (slot_at l i)) where
    own_clean : (found : Option ℕ) → Clean (slot_in l found)
    own_clean found = found_keeps Clean fresh_clean found l were

    asked_clean : (asked : Asked) → Writes Clean (on_asked (asks_denied nodes s asked) call s l asked).change
    unfolding allocated bound
    asked_clean Asked.Allocate slot out e =
        rw (allocates (as_rules call) s slot out (room_for call l) _ e).slot_is (record { permissions = fresh_clean.permissions; channels = fresh_clean.channels })
    asked_clean Asked.Refresh slot out e =
        rw (refreshes (as_rules call) s slot out _ _ e).slot_is (refreshed_keeps Clean call.time _ _ fresh_clean (renewed_clean _ _ (own_clean _)))
    asked_clean Asked.CreatePermission slot out e =
        let p = permits (as_rules call) s slot out _ _ e in
        rw p.slot_is (permits_keep Clean call.time (peers s) _ _ (peers_permitted call.time (peers s) p.none-denied) (own_clean _) (own_clean _))
    asked_clean Asked.ChannelBind slot out e =
        let b = binds (as_rules call) s slot out _ _ e in
        rw b.slot_is (bind_clean call.time _ _ b.none-denied _ (permit_clean call.time _ b.none-denied _ (own_clean _)))
    asked_clean Asked.Send slot out e = kept_not_written e
    asked_clean Asked.ChannelData slot out e = kept_not_written e
    asked_clean Asked.Nothing slot out e = kept_not_written e

  decided_clean : (call : Call) (s : List ℕ) (l : List Slot) → ((i : ℕ) → Clean (slot_at l i)) → Writes Clean (decided (names_denied nodes call s) call s l).change
  unfolding decided
  decided_clean (Client call) s l were = asked_clean call s l were (asked_by s)
  decided_clean (Peer call) s l were = λ slot out e. kept_not_written e

  -- ---- What goes out

  -- nothing to a denied address, and nothing of one
  abbrev Kept : Call → Out → Type 0
  Kept call (dropped cause) = Unit
  Kept (Client call) (to_client fiveTuple message) = Unit
  Kept (Peer call) (to_client fiveTuple message) = Reachable call.source.address
  Kept call (to_peer port peer start len) = Reachable peer.address

  permitted_kept : (t : ℕ) (peer : TransportAddress) (slot : Slot) → Clean slot → permission_of t peer slot ≡ Live → Reachable peer.address
  unfolding permission_of
  permitted_kept t peer slot f live =
      let p = rw live at (lookup_says t peer.address slot.permissions) in
      rw p.same at (f.permissions p.at (omega (arith, p.live)))

  peer_kept : (call : FromPeer) (s : List ℕ) (own : Bool) (slot : Slot) → Clean slot → Kept (Peer call) (relay_from_peer call.time call.source call.id s own slot)
  peer_kept call s own slot f = from_peer_is (Kept (Peer call)) (λ cause. tt) _ _ _ s own slot (permitted_kept call.time call.source slot f)

  module _ (call : FromClient) (s : List ℕ) where
    send_kept : (own : Bool) (slot : Slot) → Clean slot → Kept (Client call) (send (as_rules call) s own slot)
    send_kept own slot f =
        send_is (Kept (Client call)) (λ cause. tt) _ s own slot (λ value e live. permitted_kept call.time (peer_or_nobody (first_peer s)) slot f live)

    channelled_kept : (own : Bool) (slot : Slot) → Clean slot → Kept (Client call) (send_channel_data (as_rules call) s own slot)
    unfolding at_or
    channelled_kept own slot f = channelled_is (Kept (Client call)) (λ cause. tt) _ s own slot (λ message e there. leads message.number (has_at _ there))
      where
        leads : (number : ℕ) → (i : ℕ) × (find (numbered call.time number) slot.channels ≡ Some i)
            → Reachable (at_or fresh_channel (find (numbered call.time number) slot.channels) slot.channels).peer.address
        leads number found =
            let live = (numbered_is call.time number _ (find_some (numbered call.time number) slot.channels fresh_channel found.0 found.1).0).0 in
            rw found.1 (f.channels found.0 (omega (arith, live.0)))

    -- a response goes to its client
    response_kept : (fiveTuple : FiveTuple) (method : Method) (code : ℕ) (accepted : Change) → Kept (Client call) (out_of accepted)
        → Kept (Client call) (out_of (respond fiveTuple method s code accepted))
    unfolding respond
    response_kept fiveTuple method code accepted f = chosen (λ (x : Change). Kept (Client call) (out_of x)) (eqb code 0) (λ _. f) (λ _. tt)

    allocate_kept : (room : Room) (slot : Slot) → Kept (Client call) (out_of (allocate (as_rules call) s room slot))
    unfolding allocate
    allocate_kept room slot =
        response_kept _ _ _ _ (chosen (λ (x : Change). Kept (Client call) (out_of x)) (repeats (as_rules call) s room.own slot) (λ _. tt) (λ _. tt))

    asked_kept : (barred : Bool) (l : List Slot) → ((i : ℕ) → Clean (slot_at l i)) → (asked : Asked) → Kept (Client call) (out_of (on_asked barred call s l asked).change)
    unfolding refresh create_permission channel_bind
    asked_kept barred l were Asked.Allocate = allocate_kept _ _
    asked_kept barred l were Asked.Refresh = response_kept _ _ _ _ tt
    asked_kept barred l were Asked.CreatePermission = response_kept _ _ _ _ tt
    asked_kept barred l were Asked.ChannelBind = response_kept _ _ _ _ tt
    asked_kept barred l were Asked.Send = send_kept _ _ (own_clean call s l were _)
    asked_kept barred l were Asked.ChannelData = channelled_kept _ _ (own_clean call s l were _)
    asked_kept barred l were Asked.Nothing = tt

  decided_kept : (barred : Bool) (call : Call) (s : List ℕ) (l : List Slot) → ((i : ℕ) → Clean (slot_at l i)) → Kept call (out_of (decided barred call s l).change)
  unfolding decided
  decided_kept barred (Client call) s l were = asked_kept call s barred l were (asked_by s)
  decided_kept barred (Peer call) s l were = peer_kept call s _ _ (found_keeps Clean fresh_clean _ l were)

  -- ---- One call
  abbrev KeptAct : Call → Act → Type 0
  KeptAct call (refuse refusal) = Unit
  KeptAct call (accept next out) = Kept call out

  done_kept : (call : Call) (st : State) (found : Option ℕ) (change : Change) → Kept call (out_of change) → KeptAct call (done st found change)
  done_kept call st (Some k) (keep out) f = f
  done_kept call st (Some k) (write slot out) f = f
  done_kept call st None change f = f

  act_kept : (st : State) (a : Arrival) → ((i : ℕ) → Clean (slot_at st.slots i)) → KeptAct a.call (acts st a)
  unfolding accepted
  act_kept st a were =
      acted (KeptAct a.call) (met st a) a.call a.datagram (length a.reply) (λ number. tt)
      (λ e. done_kept a.call (at_time (time_of a.call) (met st a)) (decision (met st a) a.call a.datagram).place (decision (met st a) a.call a.datagram).change
      (decided_kept (names_denied a.denied a.call a.datagram) a.call a.datagram st.slots were))

  -- ---- Every list of calls
  lived_clean : (list : List Event) (first last : State) → Lived first list last → AllMeet nodes list → ((i : ℕ) → Clean (slot_at first.slots i))
      → (i : ℕ) → Clean (slot_at last.slots i)
  lived_clean [] first last l m f = rw (← l) f
  lived_clean (e ∷ rest) first last l m f =
      lived_clean rest l.0 last l.2 m.1
      (rw l.1.state_is (next_keeps Clean first e.arrival f (λ w. rw m.0 (decided_clean e.arrival.call e.arrival.datagram first.slots f))))

  meet_before : (before rest : List Event) → AllMeet nodes (before ++ rest) → AllMeet nodes before
  meet_before [] rest m = tt
  meet_before (b ∷ before) rest m = (m.0, meet_before before rest m.1)

-- ---- The theorem
module _ (nodes : List ℕ) (x : ℕ) (shut : denied nodes x ≡ true) (st : State) (e : Event) (o : e.outcome ≡ outcome st e.arrival) (were : (i : ℕ) → Clean nodes (slot_at st.slots i)) where
  event_kept : KeptOut x e
  event_kept = record {
    reaches_nobody = λ R t from C to. from_none e.arrival.call (acts st e.arrival) (act_kept nodes st e.arrival were) C to.0 (sym o ∙ to.1) R t from.0 from.1 from.2;
    is_not_reached = λ port peer start len q same. to_none e.arrival.call (acts st e.arrival) (act_kept nodes st e.arrival were) port peer start len (sym o ∙ q) same;
  }
    where
      from_none : (call : Call) (act : Act) → KeptAct nodes call act → (C : FiveTuple) (n : ℕ) → outcome_of act ≡ ToClient C n → (R t p : ℕ) (id : TransactionId)
          → call ≡ Peer (record { time = t; source = record { address = V4 x; port = p }; port = R; id = id }) → ⊥
      from_none call (refuse refusal) k C n q R t p id c = let z : ◌≡◌ {A = ℕ} 0 1 = cc in omega arith
      from_none call (accept next (dropped cause)) k C n q R t p id c = dropped_not_sent cause q
      from_none call (accept next (to_client D m)) k C n q R t p id c = false≢true (sym (rw c at k) ∙ shut)
      from_none call (accept next (to_peer port peer start len)) k C n q R t p id c = let z : ◌≡◌ {A = ℕ} 0 1 = cc in omega arith

      to_none : (call : Call) (act : Act) → KeptAct nodes call act → (port : ℕ) (peer : TransportAddress) (start len : ℕ) → outcome_of act ≡ ToPeer port peer start len
          → peer.address ≡ V4 x → ⊥
      to_none call (refuse refusal) k port peer start len q same = let z : ◌≡◌ {A = ℕ} 0 1 = cc in omega arith
      to_none call (accept next (dropped cause)) k port peer start len q same = dropped_not_relayed cause q
      to_none call (accept next (to_client D m)) k port peer start len q same = let z : ◌≡◌ {A = ℕ} 0 1 = cc in omega arith
      to_none call (accept next (to_peer port' peer' start' len')) k port peer start len q same =
          let p : peer' ≡ peer = cc in false≢true (sym (rw (p, same) at k) ∙ shut)

-- 'Where every call of a list meets the tree of one text, no datagram from a denied address ever reaches a client, and no Send or ChannelData ever goes to
-- one': of every list of calls to an empty relay, whatever tree it had
pub kept_out : (text old tree : List ℕ) → (read_denied text old).number ≡ 0 → (list : List Event) (last : State) → Lived (meeting tree empty) list last → AllMeet (read_denied text old).nodes list
    → (before after : List Event) (e : Event) → list ≡ before ++ e ∷ after → (x : ℕ) → x < 2 ^ 32 → covered (prefixes_of text) x ≡ true → KeptOut x e
kept_out text old tree taken list last lived meet before after e split x fits covers =
    let nodes = (read_denied text old).nodes in
    let first = meeting tree empty in
    let m = lived_middle before (e ∷ after) first last (rw split at lived) in
    let were = lived_clean nodes before first m.0 m.1 (meet_before nodes before (e ∷ after) (rw split at meet)) (λ i. rw (all_same fresh_slot 64 i) (fresh_clean nodes)) in
    event_kept nodes x (denied_exactly text old taken x fits ∙ covers) m.0 e m.2.1.outcome_is were
