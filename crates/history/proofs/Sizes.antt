-- 'Nothing sent exceeds 1,536 bytes', and 'place of payload' is one in the datagram: of every call, whatever the state and the buffers.
use Prim.Native.Nat.{ℕ, ◌+◌, ◌≤◌}
use mathlib.Core.Path.{◌≡◌}
use mathlib.Core.Bool.{Bool, true, false, not}
use mathlib.Core.List.{List, []}
use native.Mathlib.Omega.{arith}
use lib.Dec.{eqb, ltb, leb}
use lib.ListN.{length, take, drop, length-take}
use borrow.Author.Tests.{ltb-false}
use Rattle.wire.specs.Wire.{part_of}
use Rattle.choice.specs.Choice.{pick}
use Rattle.address.specs.declared.TransportAddress.{TransportAddress}
use Rattle.slot.specs.declared.Slot.{Slot}
use Rattle.std.specs.Prelude.{Option, Some, None}
use Rattle.rules.specs.declared.answer.Outcome.TheVariants.{ToPeer}
use Rattle.decisions.specs.declared.client.Asked.{Asked}
use Rattle.rules.specs.Change.{Change, keep, write, dropped, to_client, to_peer, out_of}
use Rattle.decisions.specs.Client.{asked_by}
use Rattle.decisions.proofs.Sizes.{Fits, allocate_fits, refresh_fits, create_permission_fits, channel_bind_fits, send_fits, channelled_fits, from_peer_fits}
use Rattle.interface.specs.declared.incoming.Call.{Call}
use Rattle.interface.specs.declared.incoming.Call.TheVariants.{Client, Peer}
use Rattle.interface.specs.declared.incoming.FromClient.{FromClient}
use Rattle.state.specs.State.{State, clock_of, at_time}
use Rattle.state.specs.Outcomes.{Act, refuse, accept, outcome_of}
use Rattle.interface.specs.Refusals.{time_of, lengths, refusal}
use Rattle.interface.specs.Sending.{sent}
use Rattle.decisions.specs.Decisions.{as_rules, room_for, on_asked, decided}
use Rattle.state.specs.Step.{done, decision, accepted, act}
use Rattle.state.proofs.Laws.{acted}
use Rattle.relay.proofs.Laws.{none_of}
use Rattle.history.proofs.Replies.{dropped_sends, dropped_not_relayed}

-- what an act gives out fits
abbrev ActFits : List ℕ → Act → Type 0
ActFits s (refuse refusal) = Unit
ActFits s (accept next out) = (length s ≤ 1500) × Fits s out

asked_fits : (denied : Bool) (call : FromClient) (s : List ℕ) (slots : List Slot) (asked : Asked) → Fits s (out_of (on_asked denied call s slots asked).change)
asked_fits denied call s slots Asked.Allocate = allocate_fits (as_rules call) s (room_for call slots) _
asked_fits denied call s slots Asked.Refresh = refresh_fits (as_rules call) s _ _
asked_fits denied call s slots Asked.CreatePermission = create_permission_fits (as_rules call) s _ _ _
asked_fits denied call s slots Asked.ChannelBind = channel_bind_fits (as_rules call) s _ _ _
asked_fits denied call s slots Asked.Send = send_fits (as_rules call) s _ _
asked_fits denied call s slots Asked.ChannelData = channelled_fits (as_rules call) s _ _
asked_fits denied call s slots Asked.Nothing = tt

decided_fits : (denied : Bool) (call : Call) (s : List ℕ) (slots : List Slot) → length s ≤ 1500 → Fits s (out_of (decided denied call s slots).change)
unfolding decided
decided_fits denied (Client call) s slots h = asked_fits denied call s slots (asked_by s)
decided_fits denied (Peer call) s slots h = from_peer_fits call.time call.source call.id s _ _ h

done_fits : (s : List ℕ) (st : State) (found : Option ℕ) (change : Change) → length s ≤ 1500 → Fits s (out_of change) → ActFits s (done st found change)
done_fits s st (Some k) (keep out) h f = (h, f)
done_fits s st (Some k) (write slot out) h f = (h, f)
done_fits s st None change h f = (h, f)

-- '4 datagram over 1,500 bytes'
not_long : (clock slots reply : ℕ) (s : List ℕ) (call : Call) → refusal clock (lengths slots (length s) reply) call ≡ 0 → length s ≤ 1500
unfolding refusal
not_long clock slots reply s call e =
    let a = none_of (ltb reply 1536) 2 _ e in
    let b = none_of (not (eqb slots 64)) 5 _ a.1 in
    ltb-false 1500 (length s) (none_of (ltb 1500 (length s)) 3 _ b.1).0

act_fits : (st : State) (call : Call) (s : List ℕ) (reply : ℕ) → ActFits s (act st call s reply)
unfolding accepted
act_fits st call s reply =
    acted (ActFits s) st call s reply (λ number. tt)
    (λ e. let h = not_long (clock_of st) (length st.slots) reply s call e in
    done_fits s (at_time (time_of call) st) (decision st call s).place (decision st call s).change h (decided_fits _ call s st.slots h))

-- a part of n bytes or none has n bytes at most
part_short : (b : Bool) (n : ℕ) (l : List ℕ) → length (pick b (take n l) []) ≤ n
part_short true n l = rw length-take (omega arith)
part_short false n l = omega arith

-- 'Nothing sent exceeds 1,536 bytes.' What is shown of an outcome is so short whatever two buffers it is shown of
pub nothing_larger : (st : State) (call : Call) (s : List ℕ) (reply : ℕ) (datagram buffer : List ℕ)
    → length (sent (outcome_of (act st call s reply)) datagram buffer) ≤ 1536
unfolding part_of
nothing_larger st call s reply datagram buffer = go (act st call s reply) (act_fits st call s reply)
  where
    go : (it : Act) → ActFits s it → length (sent (outcome_of it) datagram buffer) ≤ 1536
    go (refuse refusal) f = omega arith
    go (accept next (dropped cause)) f = rw (dropped_sends cause datagram buffer) (omega arith)
    go (accept next (to_client fiveTuple message)) f = omega (arith, part_short (leb (length message) (length buffer)) (length message) buffer, f.1)
    go (accept next (to_peer port peer start len)) f = omega (arith, part_short (leb (start + len) (length datagram)) len (drop start datagram), f.0, f.1)

-- 'To a peer: relay port, peer, place of payload': the place lies in the datagram
pub payload_within : (st : State) (call : Call) (s : List ℕ) (reply : ℕ) {port : ℕ} {peer : TransportAddress} {start len : ℕ}
    → outcome_of (act st call s reply) ≡ ToPeer port peer start len → start + len ≤ length s
payload_within st call s reply {port} {peer} {start} {len} e = go (act st call s reply) (act_fits st call s reply) e
  where
    go : (it : Act) → ActFits s it → outcome_of it ≡ ToPeer port peer start len → start + len ≤ length s
    go (refuse refusal) f e = let z : ◌≡◌ {A = ℕ} 0 1 = cc in omega arith
    go (accept next (dropped cause)) f e = dropped_not_relayed cause e
    go (accept next (to_client fiveTuple message)) f e = let z : ◌≡◌ {A = ℕ} 0 1 = cc in omega arith
    go (accept next (to_peer port' peer' start' len')) f e =
        let x : start' ≡ start = cc in
        let y : len' ≡ len = cc in
        omega (arith, f.1)
