-- Every call leaves a state whose numbers are of their types.
use Prim.Native.Nat.{ℕ, ◌<◌, ◌≤◌, ◌^◌}
use mathlib.Core.Path.{◌≡◌, refl, ◌∙◌}
use mathlib.Core.Bool.{Bool, true, false}
use mathlib.Core.List.{List, [], ◌∷◌}
use native.Mathlib.Omega.{arith}
use lib.Dec.{eqb, lit<}
use lib.ListN.{length, length-set}
use borrow.Author.Tests.{leb-true}
use Rattle.std.proofs.Common.{Option}
use Rattle.wire.proofs.Laws.{all_same}
use Rattle.choice.specs.Choice.{pick}
use Rattle.choice.proofs.Laws.{both_parts}
use Rattle.address.specs.declared.Address.{Address}
use Rattle.address.specs.declared.TransportAddress.{TransportAddress}
use Rattle.stun.specs.declared.message.Attribute.{Attribute}
use Rattle.stun.specs.AttributeNumbers as attribute
use Rattle.stun.specs.Message.{attributes_from}
use Rattle.stun.specs.Values.{transaction_id_of, peer_or_nobody, address_at, peers_of, peers_from, peers, head_of, first_peer}
use Rattle.slot.specs.declared.Slot.{Slot}
use Rattle.std.specs.Prelude.{Option, Some, None}
use Rattle.slot.specs.Search.{put_at, at_or}
use Rattle.slot.specs.Slot.{fresh_permission, fresh_channel, fresh_slot, is_channel_number, permission_entry, permit, channel_entry, bind}
use Rattle.table.specs.Table.{slot_at}
use Rattle.decisions.specs.declared.client.Asked.{Asked}
use Rattle.rules.specs.Change.{Change, keep, write}
use Rattle.rules.specs.Values.{lifetime}
use Rattle.allocation_rules.specs.Allocations.{allocated, renewed}
use Rattle.permission_rules.specs.Permissions.{bound}
use Rattle.decisions.specs.Client.{asked_by}
use Rattle.rules.proofs.Laws.{kept_not_written}
use Rattle.decisions.proofs.Accepted.{allocates, refreshes, permits, binds, granted_range}
use Rattle.allocation_rules.proofs.Laws.{granted_refresh_small}
use Rattle.interface.specs.declared.incoming.Call.{Call}
use Rattle.interface.specs.declared.incoming.Call.TheVariants.{Client, Peer}
use Rattle.interface.specs.declared.incoming.FromClient.{FromClient}
use Rattle.state.specs.State.{State, empty, clock_of, at_time}
use Rattle.state.specs.Outcomes.{Act, state_after}
use Rattle.interface.specs.Refusals.{time_of}
use Rattle.decisions.specs.Decisions.{as_rules, room_for, names_denied, on_asked, decided}
use Rattle.state.specs.Step.{done, decision, accepted}
use Rattle.state.proofs.Laws.{acted}
use Rattle.decisions.specs.Inner.{Ready}
use Rattle.client_reader.specs.Fields.{Bytes, AddressFits}
use Rattle.client_reader.proofs.Ranges.{address_fits}
use Rattle.history.specs.Events.{TransportFits, CallFits, Arrival, met, next, Event, Lived}
use Rattle.history.specs.Fits.{PermissionFits, ChannelFits, SlotFits, StateFits}
use Rattle.history.proofs.Slots.{place_keeps, found_keeps, MayPermit, permits_keep, refreshed_keeps, Writes, next_keeps}
use Rattle.history.proofs.FreePort.{port-fits}
use Rattle.history.proofs.Replies.{id_fits}

-- ---- An entry written into a list
length_place : {A : Type 0} (found : Option ℕ) (x : A) (l : List A) → length (put_at found x l) ≡ length l
unfolding put_at
length_place (Some k) x l = length-set l k x
length_place None x l = refl

-- ---- Fresh
fresh_fits : SlotFits fresh_slot
unfolding fresh_slot
fresh_fits = record {
  allocation = record { user = lit< tt; client = (lit< tt, lit< tt); server = (lit< tt, lit< tt); protocol = lit< tt; port = lit< tt; expiry = lit< tt };
  transaction_id = (lit< tt, lit< tt, lit< tt);
  eight_permissions = refl;
  permissions = λ i. rw (all_same fresh_permission 8 i) (record { address = lit< tt; expiry = lit< tt });
  eight_channels = refl;
  channels = λ i. rw (all_same fresh_channel 8 i) (record { number = lit< tt; peer = (lit< tt, lit< tt); expiry = lit< tt });
}

pub found_fits : (found : Option ℕ) (l : List Slot) → ((i : ℕ) → SlotFits (slot_at l i)) → SlotFits (at_or fresh_slot found l)
found_fits = found_keeps SlotFits fresh_fits

-- ---- The addresses that a datagram carries
module _ (s : List ℕ) (bytes : Bytes s) where
  abbrev AllFit : List (Option TransportAddress) → Type 0
  AllFit [] = Unit
  AllFit (v ∷ l) = TransportFits (peer_or_nobody v) × AllFit l

  values_fit : (l : List Attribute) → AllFit (peers_of s l)
  unfolding peers_of
  values_fit [] = tt
  values_fit (a ∷ l) = go (eqb a.number attribute.xor_peer_address) (values_fit l)
    where
      go : (b : Bool) → AllFit (peers_of s l) → AllFit (pick b (address_at s a.start a.len ∷ peers_of s l) (peers_of s l))
      go true f = (address_fits s bytes a.start a.len, f)
      go false f = f

  peers_fit : AllFit (peers s)
  unfolding peers_from
  peers_fit = values_fit (attributes_from s 20)

  first_fits : TransportFits (peer_or_nobody (first_peer s))
  unfolding first_peer
  first_fits = go (peers s) peers_fit
    where
      go : (l : List (Option TransportAddress)) → AllFit l → TransportFits (peer_or_nobody (head_of l))
      go [] f = (lit< tt, lit< tt)
      go (v ∷ l) f = f.0

-- ---- What is written
module _ (t : ℕ) (soon : t ≤ 2 ^ 40) where
  permit_fits : (a : Address) (slot : Slot) → AddressFits a → SlotFits slot → SlotFits (permit t a slot).slot
  unfolding permit
  permit_fits a slot h f = record {
    allocation = f.allocation;
    transaction_id = f.transaction_id;
    eight_permissions = length_place (permission_entry t a slot.permissions) _ slot.permissions ∙ f.eight_permissions;
    permissions =
        place_keeps PermissionFits fresh_permission _ (record { address = h; expiry = omega arith }) (permission_entry t a slot.permissions) slot.permissions f.permissions;
    eight_channels = f.eight_channels;
    channels = f.channels;
  }

  bind_fits : (number : ℕ) (peer : TransportAddress) (slot : Slot) → number < 2 ^ 16 → TransportFits peer → SlotFits slot → SlotFits (bind t number peer slot).slot
  unfolding bind
  bind_fits number peer slot n h f = record {
    allocation = f.allocation;
    transaction_id = f.transaction_id;
    eight_permissions = f.eight_permissions;
    permissions = f.permissions;
    eight_channels = length_place (channel_entry t number slot.channels) _ slot.channels ∙ f.eight_channels;
    channels =
        place_keeps ChannelFits fresh_channel _ (record { number = n; peer = h; expiry = omega arith }) (channel_entry t number slot.channels) slot.channels f.channels;
  }

  peers_permitted : (s : List ℕ) (bytes : Bytes s) (l : List (Option TransportAddress)) → AllFit s bytes l → MayPermit SlotFits t l
  peers_permitted s bytes [] f = tt
  peers_permitted s bytes (v ∷ l) f = (λ slot. permit_fits (peer_or_nobody v).address slot f.0.0, peers_permitted s bytes l f.1)

  renewed_fits : (expiry : ℕ) → expiry < 2 ^ 64 → (slot : Slot) → SlotFits slot → SlotFits (renewed expiry slot)
  unfolding renewed
  renewed_fits expiry h slot f =
      let a = f.allocation in
      record {
        allocation = record { user = a.user; client = a.client; server = a.server; protocol = a.protocol; port = a.port; expiry = h };
        transaction_id = f.transaction_id;
        eight_permissions = f.eight_permissions;
        permissions = f.permissions;
        eight_channels = f.eight_channels;
        channels = f.channels;
      }

module _ (denied : Bool) (call : FromClient) (s : List ℕ) (l : List Slot) (fits : CallFits (Client call)) (bytes : Bytes s) (soon : call.time ≤ 2 ^ 40) (user : call.user ≤ 32)
    (were : (i : ℕ) → SlotFits (slot_at l i)) where
  allocated_fits : (port seconds : ℕ) → port < 2 ^ 16 → seconds ≤ 3600 → SlotFits (allocated (as_rules call) (transaction_id_of s) port seconds)
  unfolding allocated
  allocated_fits port seconds p few = record {
    allocation = record { user = omega arith; client = fits.1; server = fits.2; protocol = fits.3; port = p; expiry = omega arith };
    transaction_id = id_fits s bytes;
    eight_permissions = fresh_fits.eight_permissions;
    permissions = fresh_fits.permissions;
    eight_channels = fresh_fits.eight_channels;
    channels = fresh_fits.channels;
  }

  number_fits : (number : ℕ) → is_channel_number number ≡ true → number < 2 ^ 16
  unfolding is_channel_number
  number_fits number e = let h = leb-true number 0x4fff (both_parts _ _ e).1 in omega arith

  asked_fits : (asked : Asked) → Writes SlotFits (on_asked denied call s l asked).change
  unfolding bound
  asked_fits Asked.Allocate slot out e =
      rw (allocates (as_rules call) s slot out (room_for call l) _ e).slot_is (allocated_fits _ _ (port-fits _ _) (granted_range (lifetime s)).1)
  asked_fits Asked.Refresh slot out e =
      rw (refreshes (as_rules call) s slot out _ _ e).slot_is
      (let few = granted_refresh_small (lifetime s) in
      refreshed_keeps SlotFits call.time _ _ fresh_fits (renewed_fits call.time soon _ (omega arith) _ (found_fits _ l were)))
  asked_fits Asked.CreatePermission slot out e =
      rw (permits (as_rules call) s slot out _ _ e).slot_is
      (permits_keep SlotFits call.time (peers s) _ _ (peers_permitted call.time soon s bytes (peers s) (peers_fit s bytes)) (found_fits _ l were) (found_fits _ l were))
  asked_fits Asked.ChannelBind slot out e =
      let b = binds (as_rules call) s slot out _ _ e in
      let peer = first_fits s bytes in
      rw b.slot_is
      (bind_fits call.time soon _ _ _ (number_fits _ b.in_range) peer (permit_fits call.time soon _ _ peer.0 (found_fits _ l were)))
  asked_fits Asked.Send slot out e = kept_not_written e
  asked_fits Asked.ChannelData slot out e = kept_not_written e
  asked_fits Asked.Nothing slot out e = kept_not_written e

decided_fits : (denied : Bool) (call : Call) (s : List ℕ) (l : List Slot) (reply : List ℕ) → CallFits call → Bytes s → Ready call s reply → ((i : ℕ) → SlotFits (slot_at l i))
    → Writes SlotFits (decided denied call s l).change
unfolding decided
decided_fits denied (Client call) s l reply fits bytes ready were = asked_fits denied call s l fits bytes ready.soon ready.user were (asked_by s)
decided_fits denied (Peer call) s l reply fits bytes ready were = λ slot out e. kept_not_written e

-- ---- One call
time_fits : (call : Call) → CallFits call → time_of call < 2 ^ 64
time_fits (Client call) fits = fits.4
time_fits (Peer call) fits = fits.3

-- another tree is met
pub met_fits : (st : State) (a : Arrival) → StateFits st → StateFits (met st a)
met_fits st a f = record { clock = f.clock; sixty_four = f.sixty_four; slots = f.slots }

-- the clock and the number of slots
abbrev Sized : State → Type 0
Sized st = (clock_of st < 2 ^ 64) × (length st.slots ≡ 64)

done_sized : (was st : State) (found : Option ℕ) (change : Change) → Sized st → Sized (state_after was (done st found change))
done_sized was st (Some k) (keep out) f = f
done_sized was st (Some k) (write slot out) f = (f.0, length-set st.slots k slot ∙ f.1)
done_sized was st None change f = f

next_sized : (st : State) (a : Arrival) → Sized st → Sized (next st a)
unfolding accepted
next_sized st a f =
    acted (λ (x : Act). Sized (state_after (met st a) x)) (met st a) a.call a.datagram (length a.reply) (λ number. f)
    (λ e. done_sized (met st a) (at_time (time_of a.call) (met st a)) (decision (met st a) a.call a.datagram).place (decision (met st a) a.call a.datagram).change
    (time_fits a.call a.call_fits, f.1))

pub next_fits : (st : State) (a : Arrival) → StateFits st → StateFits (next st a)
next_fits st a f =
    let sized = next_sized st a (f.clock, f.sixty_four) in
    record {
      clock = sized.0;
      sixty_four = sized.1;
      slots = next_keeps SlotFits st a f.slots (λ w. decided_fits (names_denied a.denied a.call a.datagram) a.call a.datagram st.slots a.reply a.call_fits a.bytes w.ready f.slots);
    }

-- ---- Every list of calls
pub empty_fits : StateFits empty
empty_fits = record { clock = lit< tt; sixty_four = refl; slots = λ i. rw (all_same fresh_slot 64 i) fresh_fits }

pub slots_fit : (list : List Event) (first last : State) → Lived first list last → StateFits first → StateFits last
slots_fit [] first last l f = rw (← l) f
slots_fit (e ∷ rest) first last l f = slots_fit rest l.0 last l.2 (rw l.1.state_is (next_fits first e.arrival f))
