-- Demand 2's last words, of what the relay leaves in the reply: the clients' reader gives back the fields that went in.
use Prim.Native.Nat.{ℕ, ◌+◌, ◌-◌, ◌≤◌, ◌<◌, ◌^◌}
use mathlib.Core.Path.{◌≡◌, refl, sym, ap, ◌∙◌}
use mathlib.Core.Logic.{◌⊎◌, inl, inr}
use mathlib.Core.Bool.{Bool, true, false, true≢false, false≢true}
use mathlib.Core.List.{List, []}
use native.Mathlib.Omega.{arith}
use lib.Dec.{eqb, lit<}
use lib.ListN.{length, take, drop, set, replicate}
use lib.Seq.{take_at, get_or-set_same}
use borrow.Author.Tests.{eqb-true, eqb-false}
use Rattle.std.specs.Prelude.{Option, Some, None}
use Rattle.choice.specs.Choice.{pick}
use Rattle.address.specs.declared.Address.{Address}
use Rattle.address.specs.declared.Address.TheVariants.{V4, V6}
use Rattle.address.specs.declared.FiveTuple.{FiveTuple}
use Rattle.address.specs.declared.TransportAddress.{TransportAddress}
use Rattle.address.specs.declared.TransactionId.{TransactionId}
use Rattle.stun.specs.declared.kinds.Method.{Method}
use Rattle.stun.specs.declared.kinds.Method.TheVariants.{Allocate, Refresh, CreatePermission, ChannelBind}
use Rattle.stun.specs.Message.{unknown_types}
use Rattle.stun.specs.Values.{transaction_id_of}
use Rattle.messages.specs.Messages.{allocate_success, refresh_success, bare_success, error_response, unknown_response, data_indication, channel_data}
use Rattle.slot.specs.declared.Slot.{Slot}
use Rattle.std.specs.Prelude.{Option, Some, None}
use Rattle.slot.specs.Search.{find, has, or_else, at_or}
use Rattle.slot.specs.Slot.{fresh_slot, fresh_channel, leads_to}
use Rattle.table.specs.Table.{slot_at}
use Rattle.table.specs.Inner.{Within}
use Rattle.table.proofs.Laws.{found_within}
use Rattle.rules.specs.declared.answer.Outcome.TheVariants.{ToClient}
use Rattle.rules.specs.Change as rules
use Rattle.rules.specs.Change.{Out, dropped, to_client, to_peer, Change, keep, write, out_of, error_message, respond}
use Rattle.rules.specs.Values.{lifetime, any_unknown, ipv4_of}
use Rattle.allocation_rules.specs.Allocations.{repeats, allocated, allocate_reply, seconds_left, told_again, newly_made, allocate, renewed, refreshed, refresh, granted, granted_refresh}
use Rattle.permission_rules.specs.Denials.{any_denied, first_denied}
use Rattle.permission_rules.specs.Permissions.{create_permission, channel_bind}
use Rattle.data_rules.specs.Data.{send, send_channel_data, relayed, relay_from_peer}
use Rattle.data_rules.proofs.Laws.{send_is, channelled_is, from_peer_is}
use Rattle.decisions.specs.declared.client.Asked.{Asked}
use Rattle.decisions.specs.Client.{asked_by}
use Rattle.rules.proofs.Laws.{kept_not_written}
use Rattle.allocation_rules.proofs.Laws.{repeats_own, granted_small, granted_refresh_small}
use Rattle.interface.specs.declared.incoming.Call.{Call}
use Rattle.interface.specs.declared.incoming.Call.TheVariants.{Client, Peer}
use Rattle.interface.specs.declared.incoming.FromClient.{FromClient}
use Rattle.interface.specs.declared.incoming.FromPeer.{FromPeer}
use Rattle.state.specs.State.{State, empty, clock_of, at_time}
use Rattle.state.specs.Outcomes.{Act, refuse, accept, outcome_of, state_after, reply_after}
use Rattle.interface.specs.Refusals.{time_of}
use Rattle.decisions.specs.Decisions.{as_rules, own_place, slot_in, room_for, asks_denied, names_denied, on_asked, decided}
use Rattle.state.specs.Step.{done, accepted, act}
use Rattle.state.proofs.Laws.{acted}
use Rattle.decisions.specs.Inner.{Ready}
use Rattle.relay.proofs.Laws.{not_refused}
use Rattle.decisions.proofs.Accepted.{allocates}
use Rattle.decisions.proofs.Laws.{decided-writes}
use Rattle.client_reader.specs.declared.Message.TheVariants as Is
use Rattle.client_reader.specs.declared.Message.{Message}
use Rattle.client_reader.specs.Fields.{Bytes, IdFits, AddressFits, IsBare, InRange, written, data_of, Exact}
use Rattle.client_reader.proofs.Laws.{written_read, message_exact, one_reading, indication_within, indication_data, channel_within, channel_data_lem}
use Rattle.history.specs.Events.{CallFits, TransportFits, Arrival, met, Event, Happened, Lived}
use Rattle.history.specs.Fits.{SlotFits, StateFits}
use Rattle.history.specs.ReadBack.{free_place, success_for, unknown_for, error_for, response_for, relayed_for, answer_for, fields_for, data_for, ReadAs, ReadBack}
use Rattle.history.proofs.Tests.{find_some, leads_is}
use Rattle.history.proofs.FreePort.{port-fits}
use Rattle.history.proofs.Fits.{found_fits, met_fits, empty_fits, slots_fit}
use Rattle.history.proofs.Replies.{dropped_not_sent, id_fits}
use Rattle.history.proofs.Codes.{Coded, allocate_coded, refresh_coded, permission_coded, channel_coded, types_in_range}

-- ---- Each message

read_as_lem : (m : Message) (payload message : List ℕ) → InRange m message → written m message ≡ message → data_of m message ≡ payload
    → ReadAs (Some m) payload message
read_as_lem m payload message r w d = record { is_message = refl; exact = message_exact message m r w; read = written_read message m r w; shown = d }

module _ (id : TransactionId) (h : IdFits id) where
  allocate_back : (relay port seconds : ℕ) (client : TransportAddress) {port' seconds' : ℕ} → relay < 2 ^ 32 → port < 2 ^ 16 → seconds < 2 ^ 32 → TransportFits client
      → port' ≡ port → seconds' ≡ seconds
      → ReadAs (Some (Is.AllocateSuccess id relay port' seconds' client)) [] (allocate_success id relay port seconds client)
  allocate_back relay port seconds client hr hp hs hc p q =
      rw (p, q) (read_as_lem _ _ _ (h, hr, hp, hs, hc.0, hc.1) refl refl)

  refresh_back : (seconds : ℕ) {seconds' : ℕ} → seconds < 2 ^ 32 → seconds' ≡ seconds
      → ReadAs (Some (Is.RefreshSuccess id seconds')) [] (refresh_success id seconds)
  refresh_back seconds hs q = rw q (read_as_lem _ _ _ (h, hs) refl refl)

  bare_back : (method : Method) → IsBare method → ReadAs (Some (Is.BareSuccess method id)) [] (bare_success method id)
  bare_back method b = read_as_lem _ _ _ (h, b) refl refl

  error_back : (method : Method) (code : ℕ) → 300 ≤ code → code ≤ 699 → (code ≡ 420 → ⊥)
      → ReadAs (Some (Is.Error method id code)) [] (error_response method id code)
  error_back method code low high other = read_as_lem _ _ _ (h, low, high, other) refl refl

  indication_back : (peer port : ℕ) (payload : List ℕ) → peer < 2 ^ 32 → port < 2 ^ 16 → length payload ≤ 1500
      → ReadAs (Some (Is.DataIndication id peer port 36 (length payload))) payload (data_indication id peer port payload)
  indication_back peer port payload ha hp few =
      let shown = indication_data id peer port payload in
      read_as_lem _ _ _
      (h, ha, hp, record { from = refl; few = few; within = indication_within id peer port payload })
      (ap (data_indication id peer port) shown) shown

channel_back : (number : ℕ) (payload : List ℕ) → 0x4000 ≤ number → number ≤ 0x4fff → length payload ≤ 1500
    → ReadAs (Some (Is.ChannelData number 4 (length payload))) payload (channel_data number payload)
channel_back number payload low high few =
    let shown = channel_data_lem number payload in
    read_as_lem _ _ _
    (low, high, record { from = refl; few = few; within = channel_within number payload })
    (ap (channel_data number) shown) shown

-- ---- What goes out, and the slots that a decision leaves

-- what goes to a client is read as these fields
abbrev Readable : Option Message → List ℕ → Out → Type 0
Readable fields payload (dropped cause) = Unit
Readable fields payload (to_client fiveTuple message) = ReadAs fields payload message
Readable fields payload (to_peer port peer start len) = Unit

-- a slot that is written stands at its place, and where none is, the slots are as they were
record Left (before after : List Slot) (place : Option ℕ) (change : Change) : Type 0 where
  wrote : (slot : Slot) (out : Out) → change ≡ write slot out → slot_in after place ≡ slot
  kept : (out : Out) → change ≡ keep out → after ≡ before

-- ---- Requests

-- LIFETIME is what is left of a refreshed slot's time
until_expiry : (time seconds : ℕ) (was : Slot) {slot : Slot} → slot ≡ refreshed time seconds was → slot.allocation.expiry - time ≡ seconds
unfolding refreshed renewed fresh_slot
until_expiry time seconds was e = rw e (go (eqb seconds 0) refl)
  where
    go : (b : Bool) → eqb seconds 0 ≡ b → (pick b fresh_slot (renewed (time + seconds) was)).allocation.expiry - time ≡ seconds
    go true z = omega (arith, eqb-true seconds 0 z)
    go false z = omega arith

module _ (s : List ℕ) (bytes : Bytes s) where
  unknown_back : (method : Method) → any_unknown s ≡ true → ReadAs (Some (unknown_for method s)) [] (unknown_response method (transaction_id_of s) (unknown_types s))
  unknown_back method e =
      read_as_lem _ _ _ (id_fits s bytes, types_in_range s e)
      (ap (unknown_response method (transaction_id_of s)) (take_at (unknown_types s) (replicate (16 - length (unknown_types s)) 0) (length (unknown_types s)) refl)) refl

  error_message_back : (method : Method) (code : ℕ) → Coded s code → (code ≡ 0 → ⊥) → ReadAs (Some (error_for method s code)) [] (error_message method s code)
  unfolding error_message
  error_message_back method code h ne = go (eqb code 420) refl h.range
    where
      go : (b : Bool) → eqb code 420 ≡ b → (code ≡ 0) ⊎ ((300 ≤ code) × (code ≤ 699))
          → ReadAs (Some (pick b (unknown_for method s) (Is.Error method (transaction_id_of s) code))) []
          (pick b (unknown_response method (transaction_id_of s) (unknown_types s)) (error_response method (transaction_id_of s) code))
      go b e (inl z) = absurd (ne z)
      go true e (inr r) = unknown_back method (h.unknown (eqb-true code 420 e))
      go false e (inr r) = error_back (transaction_id_of s) (id_fits s bytes) method code r.0 r.1 (eqb-false code 420 e)

  -- an accepted request writes its slot
  answered_by : (fiveTuple : FiveTuple) (method : Method) (code : ℕ) (accepted : Change) → code ≡ 0 → respond fiveTuple method s code accepted ≡ accepted
  unfolding respond
  answered_by fiveTuple method code accepted e = rw e refl

  respond_back : (fiveTuple : FiveTuple) (method : Method) (code : ℕ) (success : Message) (accepted : Change) → Coded s code
      → (code ≡ 0 → Readable (Some success) [] (out_of accepted))
      → Readable (Some (pick (eqb code 0) success (error_for method s code))) [] (out_of (respond fiveTuple method s code accepted))
  unfolding respond
  respond_back fiveTuple method code success accepted h r = go (eqb code 0) refl
    where
      go : (b : Bool) → eqb code 0 ≡ b
          → Readable (Some (pick b success (error_for method s code))) [] (out_of (pick b accepted (keep (to_client fiveTuple (error_message method s code)))))
      go true e = r (eqb-true code 0 e)
      go false e = error_message_back method code h (eqb-false code 0 e)

  module _ (denied : List ℕ) (call : FromClient) (fits : CallFits (Client call)) (before after : List Slot) where
    abbrev own : Bool
    own = has (own_place call before)

    abbrev slot : Slot
    slot = slot_in before (own_place call before)

    -- the slot that an accepted Allocate is answered from: the caller's own, or else the one that it took
    abbrev answering : Slot
    answering = slot_in after (or_else (own_place call before) (free_place call before))

    kept_own : after ≡ before → own ≡ true → answering ≡ slot
    kept_own same there = go (own_place call before) there
      where
        go : (place : Option ℕ) → has place ≡ true → slot_in after (or_else place (free_place call before)) ≡ slot_in before place
        go (Some i) e = ap (λ (l : List Slot). slot_in l (Some i)) same
        go None e = absurd (false≢true e)

    took_free : {made : Slot} → slot_in after (free_place call before) ≡ made → own ≡ false → answering ≡ made
    took_free {made} is none = go (own_place call before) none
      where
        go : (place : Option ℕ) → has place ≡ false → slot_in after (or_else place (free_place call before)) ≡ made
        go (Some i) e = absurd (true≢false e)
        go None e = is

    -- what an accepted Allocate is read back as, from the slot that it is answered from
    allocated_back : (port seconds : ℕ) → port < 2 ^ 16 → seconds < 2 ^ 32
        → answering.allocation.port ≡ port → seconds_left call.time answering.allocation.expiry ≡ seconds
        → Readable (Some (success_for call s before after Allocate)) [] (allocate_reply (as_rules call) s port seconds)
    allocated_back port seconds p n = allocate_back (transaction_id_of s) (id_fits s bytes) _ port seconds _ fits.0 p n fits.1

    allocate_readable : Left before after (free_place call before) (allocate (as_rules call) s (room_for call before) slot) → SlotFits slot
        → Readable (Some (response_for denied call s before after Allocate)) [] (out_of (allocate (as_rules call) s (room_for call before) slot))
    unfolding allocate allocated seconds_left
    allocate_readable left was =
        respond_back _ _ _ _ _ (allocate_coded s (as_rules call) (repeats (as_rules call) s own slot) (room_for call before))
        (λ e. go (repeats (as_rules call) s own slot) refl (answered_by _ _ _ _ e))
      where
        again : Change
        again = told_again (as_rules call) s slot

        new : Change
        new = newly_made (as_rules call) s (room_for call before).port (granted (lifetime s))

        picked : {b : Bool} → repeats (as_rules call) s own slot ≡ b → pick (repeats (as_rules call) s own slot) again new ≡ pick b again new
        picked is = ap (λ (b : Bool). pick b again new) is

        go : (b : Bool) → repeats (as_rules call) s own slot ≡ b → allocate (as_rules call) s (room_for call before) slot ≡ pick (repeats (as_rules call) s own slot) again new
            → Readable (Some (success_for call s before after Allocate)) [] (out_of (pick b again new))
        go true is q =
            let same = kept_own (left.kept _ (q ∙ picked is)) (repeats_own (as_rules call) s own slot is) in
            allocated_back slot.allocation.port (seconds_left call.time slot.allocation.expiry) was.allocation.port (omega arith) (rw same refl) (rw same refl)
        go false is q =
            let small = granted_small (lifetime s) in
            let taken = took_free (left.wrote _ _ (q ∙ picked is)) (allocates (as_rules call) s _ _ (room_for call before) slot (q ∙ picked is)).new in
            allocated_back (room_for call before).port (granted (lifetime s)) (port-fits _ _) (omega arith) (rw taken refl) (rw taken (omega arith))

    refresh_readable : Left before after (own_place call before) (refresh (as_rules call) s own slot)
        → Readable (Some (response_for denied call s before after Refresh)) [] (out_of (refresh (as_rules call) s own slot))
    unfolding refresh
    refresh_readable left =
        respond_back _ _ _ _ _ (refresh_coded s (as_rules call) _ _) (λ e.
        let small = granted_refresh_small (lifetime s) in
        let made = left.wrote _ _ (answered_by _ _ _ _ e) in
        refresh_back (transaction_id_of s) (id_fits s bytes) _ (omega arith)
        (until_expiry call.time (granted_refresh (lifetime s)) slot made))

    permission_readable : Readable (Some (response_for denied call s before after CreatePermission)) [] (out_of (create_permission (as_rules call) s (any_denied denied s) own slot))
    unfolding create_permission
    permission_readable = respond_back _ _ _ _ _ (permission_coded s (as_rules call) _ own slot) (λ e. bare_back (transaction_id_of s) (id_fits s bytes) CreatePermission tt)

    channel_readable : Readable (Some (response_for denied call s before after ChannelBind)) [] (out_of (channel_bind (as_rules call) s (first_denied denied s) own slot))
    unfolding channel_bind
    channel_readable = respond_back _ _ _ _ _ (channel_coded s (as_rules call) _ own slot) (λ e. bare_back (transaction_id_of s) (id_fits s bytes) ChannelBind tt)

    -- ---- A client's data
    send_readable : Readable None [] (send (as_rules call) s own slot)
    send_readable = send_is (Readable None []) (λ cause. tt) _ s own slot (λ value e live. tt)

    channelled_readable : Readable None [] (send_channel_data (as_rules call) s own slot)
    channelled_readable = channelled_is (Readable None []) (λ cause. tt) _ s own slot (λ message e there. tt)

    asked_readable : ((i : ℕ) → SlotFits (slot_at before i)) → (asked : Asked)
        → Left before after (on_asked (asks_denied denied s asked) call s before asked).place (on_asked (asks_denied denied s asked) call s before asked).change
        → Readable (answer_for denied call s before after asked) [] (out_of (on_asked (asks_denied denied s asked) call s before asked).change)
    asked_readable were Asked.Allocate left = allocate_readable left (found_fits _ before were)
    asked_readable were Asked.Refresh left = refresh_readable left
    asked_readable were Asked.CreatePermission left = permission_readable
    asked_readable were Asked.ChannelBind left = channel_readable
    asked_readable were Asked.Send left = send_readable
    asked_readable were Asked.ChannelData left = channelled_readable
    asked_readable were Asked.Nothing left = tt

-- ---- A peer's datagram
ipv4_fits : (a : Address) → AddressFits a → ipv4_of a < 2 ^ 32
ipv4_fits (V4 a) h = h
ipv4_fits (V6 a b c d) h = lit< tt

module _ (call : FromPeer) (s : List ℕ) (fits : CallFits (Peer call)) (few : length s ≤ 1500) where
  relayed_back : (slot : Slot) → ReadAs (Some (relayed_for call (length s) slot)) s (relayed call.time call.source call.id s slot)
  unfolding relayed at_or
  relayed_back slot = go (find (leads_to call.time call.source) slot.channels) refl
    where
      number : Option ℕ → ℕ
      number f = (at_or fresh_channel f slot.channels).number

      peer : ℕ
      peer = ipv4_of call.source.address

      go : (f : Option ℕ) → find (leads_to call.time call.source) slot.channels ≡ f
          → ReadAs (Some (pick (has f) (Is.ChannelData (number f) 4 (length s)) (Is.DataIndication call.id peer call.source.port 36 (length s)))) s
          (pick (has f) (channel_data (number f) s) (data_indication call.id peer call.source.port s))
      go (Some i) e =
          let live = (leads_is call.time call.source _ (find_some (leads_to call.time call.source) slot.channels fresh_channel i e).0).0 in
          channel_back _ s live.1 live.2 few
      go None e = indication_back call.id fits.1 peer call.source.port s (ipv4_fits call.source.address fits.0.0) fits.0.1 few

  peer_readable : (own : Bool) (slot : Slot) → Readable (Some (relayed_for call (length s) slot)) s (relay_from_peer call.time call.source call.id s own slot)
  peer_readable own slot =
      from_peer_is (Readable (Some (relayed_for call (length s) slot)) s) (λ cause. tt) _ _ _ s own slot (λ live. relayed_back slot)

-- ---- Every call

decided_readable : (denied : List ℕ) (call : Call) (s reply : List ℕ) (before after : List Slot) → CallFits call → Bytes s → Ready call s reply → ((i : ℕ) → SlotFits (slot_at before i))
    → Left before after (decided (names_denied denied call s) call s before).place (decided (names_denied denied call s) call s before).change
    → Readable (fields_for denied call s before after) (data_for call s) (out_of (decided (names_denied denied call s) call s before).change)
unfolding decided
decided_readable denied (Client call) s reply before after fits bytes ready were left = asked_readable s bytes denied call fits before after were (asked_by s) left
decided_readable denied (Peer call) s reply before after fits bytes ready were left =
    rw (left.kept _ refl) (peer_readable call s fits ready.short _ _)

-- the place that was found lies in the table
asked_within : (denied : Bool) (call : FromClient) (s : List ℕ) (slots : List Slot) (asked : Asked) → Within (on_asked denied call s slots asked).place (length slots)
asked_within denied call s slots Asked.Allocate = found_within _ slots _ refl
asked_within denied call s slots Asked.Refresh = found_within _ slots _ refl
asked_within denied call s slots Asked.CreatePermission = found_within _ slots _ refl
asked_within denied call s slots Asked.ChannelBind = found_within _ slots _ refl
asked_within denied call s slots Asked.Send = found_within _ slots _ refl
asked_within denied call s slots Asked.ChannelData = found_within _ slots _ refl
asked_within denied call s slots Asked.Nothing = tt

decided_within : (denied : Bool) (call : Call) (s : List ℕ) (slots : List Slot) → Within (decided denied call s slots).place (length slots)
unfolding decided
decided_within denied (Client call) s slots = asked_within denied call s slots (asked_by s)
decided_within denied (Peer call) s slots = found_within _ slots _ refl

abbrev ReadableAct : (denied : List ℕ) → Call → List ℕ → List Slot → Act → Type 0
ReadableAct denied call s before (refuse refusal) = Unit
ReadableAct denied call s before (accept next out) = Readable (fields_for denied call s before next.slots) (data_for call s) out

abbrev slot_left : Change → Slot
slot_left (keep out) = fresh_slot
slot_left (write slot out) = slot

left_kept : (slots : List Slot) (place : Option ℕ) (out : Out) → Left slots slots place (keep out)
left_kept slots place out = record { wrote = λ slot out e. kept_not_written e; kept = λ out e. refl }

done_readable : (denied : List ℕ) (call : Call) (s : List ℕ) (st : State) (place : Option ℕ) (change : Change) → Within place (length st.slots)
    → ((slot : Slot) (out : Out) → change ≡ write slot out → has place ≡ true)
    → ((after : List Slot) → Left st.slots after place change → Readable (fields_for denied call s st.slots after) (data_for call s) (out_of change))
    → ReadableAct denied call s st.slots (done st place change)
unfolding at_or
done_readable denied call s st (Some k) (keep out) w h f = f st.slots (left_kept st.slots (Some k) out)
done_readable denied call s st (Some k) (write slot out) w h f =
    f (set st.slots k slot) (record {
      wrote = λ other out e. get_or-set_same st.slots k slot fresh_slot w ∙ ap slot_left e;
      kept = λ out e. kept_not_written (sym e);
    })
done_readable denied call s st None (keep out) w h f = f st.slots (left_kept st.slots None out)
done_readable denied call s st None (write slot out) w h f = absurd (false≢true (h slot out refl))

act_readable : (st : State) (a : Arrival) → StateFits st
    → ReadableAct st.bookkeeping.denied a.call a.datagram st.slots (act st a.call a.datagram (length a.reply))
unfolding accepted
act_readable st a f =
    let denied = st.bookkeeping.denied in
    let names = names_denied denied a.call a.datagram in
    acted (ReadableAct denied a.call a.datagram st.slots) st a.call a.datagram (length a.reply) (λ number. tt)
    (λ e. done_readable denied a.call a.datagram (at_time (time_of a.call) st) _ _ (decided_within names a.call a.datagram st.slots)
    (decided-writes names a.call a.datagram st.slots) (λ after left.
    decided_readable denied a.call a.datagram a.reply st.slots after a.call_fits a.bytes
    (not_refused (clock_of st) st.slots a.datagram a.reply a.call e).ready f.slots left))

-- ---- The theorem

-- what the first n bytes of the reply hold, where the outcome is 'to the client, n bytes'
sent_readable : (fields : Option Message) (payload : List ℕ) (out : Out) (reply : List ℕ) (C : FiveTuple) (n : ℕ) → Readable fields payload out
    → ToClient C n ≡ rules.outcome_of out → ReadAs fields payload (take n (rules.reply_after reply out))
sent_readable fields payload (dropped cause) reply C n r e = dropped_not_sent cause (sym e)
sent_readable fields payload (to_client D message) reply C n r e =
    let size : length message ≡ n = cc in
    rw (take_at message (drop (length message) reply) n size) r
sent_readable fields payload (to_peer port peer start len) reply C n r e = let z : ◌≡◌ {A = ℕ} 0 1 = cc in let y : ⊥ = omega arith in absurd y

-- what is sent to a client is read back as the fields that went in
pub read_back : ReadBack
read_back before after a reply' C n f d = rw (d.state_is, d.reply_is) (go (act before a.call a.datagram (length a.reply)) (act_readable before a f) d.outcome_is)
  where
    go : (x : Act) → ReadableAct before.bookkeeping.denied a.call a.datagram before.slots x → ToClient C n ≡ outcome_of x
        → ReadAs (fields_for before.bookkeeping.denied a.call a.datagram before.slots (state_after before x).slots) (data_for a.call a.datagram) (take n (reply_after a.reply x))
    go (refuse refusal) r e = let z : ◌≡◌ {A = ℕ} 0 1 = cc in let y : ⊥ = omega arith in absurd y
    go (accept next out) r e = sent_readable _ _ out a.reply C n r e

-- so it is of every call after a list of calls to an empty relay
pub lived_read_back : (list : List Event) (st after : State) (e : Event) (C : FiveTuple) (n : ℕ) → Lived empty list st → Happened st e after → e.outcome ≡ ToClient C n
    → ReadAs (fields_for e.arrival.denied e.arrival.call e.arrival.datagram st.slots after.slots) (data_for e.arrival.call e.arrival.datagram) (take n e.reply)
lived_read_back list st after e C n lived h is =
    read_back (met st e.arrival) after e.arrival e.reply C n (met_fits st e.arrival (slots_fit list empty st lived empty_fits)) (rw is at h)

module _ {fields : Option Message} {payload message : List ℕ} (back : ReadAs fields payload message) where
  -- no other fields make the message
  pub only_fields : (m : Message) → InRange m message → written m message ≡ message → Some m ≡ fields
  only_fields m h w = sym ((back.exact.exactly m).1 (h, w))

  -- what `read_message` gives of it, by its promise
  pub reader_gives : (r : Option Message) → Exact message r → r ≡ fields
  reader_gives r x = one_reading message r fields x back.exact
