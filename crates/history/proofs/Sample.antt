-- The sample of document 01's 'Listing and the call program', computed through the definitions: 'permission made at 1010 carries at 1309 and not at 1310'.
use Prim.Native.Nat.{ℕ, ◌<◌, ◌^◌}
use mathlib.Core.Path.{◌≡◌, refl}
use mathlib.Core.List.{List, [], ◌∷◌}
use lib.Dec.{lit<}
use lib.ListN.{length, take, replicate}
use Rattle.wire.specs.Wire.{num, bytes_of}
use Rattle.choice.specs.Choice.{both, any}
use Rattle.address.specs.declared.Address.TheVariants.{V4}
use Rattle.address.specs.declared.FiveTuple.{FiveTuple}
use Rattle.address.specs.declared.TransportAddress.{TransportAddress}
use Rattle.address.specs.Address.{same_address, same_transport_address, same_five_tuple}
use Rattle.stun.specs.Kinds.{attribute_kind_of}
use Rattle.stun.specs.Message.{sorted, next_at, step_at, walk_f, walk, is_well_formed, is_integrity, is_unknown, attributes_from, first_of, unknown_numbers, unknown_types}
use Rattle.stun.specs.Values.{transaction_id_of, v4_at, address_at, peers_of, peers_from, number_value}
use Rattle.messages.specs.Messages.{allocate_success, bare_success, data_indication}
use Rattle.slot.specs.Search.{find, entry, put_at, at_or}
use Rattle.slot.specs.Slot.{live_allocation, live_permission, fresh_slot, is_channel_number, live_channel, holds, holds_user, holds_port, permits, entered, permission_state, free_permission, permission_entry, permit, leads_to}
use Rattle.table.specs.Table.{slot_at, count}
use Rattle.rules.specs.declared.answer.Outcome.TheVariants.{DroppedLapsed, ToClient}
use Rattle.rules.specs.Change.{check, respond}
use Rattle.rules.specs.Values.{any_unknown, malformed_peer, ipv6_peer}
use Rattle.rules.specs.Requests.{request_code, own_code}
use Rattle.allocation_rules.specs.Allocations.{repeats, allocate_code, allocated, allocate, first_free, port_for}
use Rattle.permission_rules.specs.Permissions.{permit_peer, permit_all, create_permission_code, create_permission}
use Rattle.data_rules.specs.Data.{permission_of, unless_dropped, relayed, peer_cause, relay_from_peer}
use Rattle.decisions.specs.Client.{asked_by}
use Rattle.denied.specs.Tree.{denied_below, denied, none_denied}
use Rattle.state.specs.State.{State, empty}
use Rattle.interface.specs.Refusals.{client_datagram, peer_datagram, refusal}
use Rattle.decisions.specs.Decisions.{ports_held, decided}
use Rattle.state.specs.Step.{accepted, act}
use Rattle.client_reader.specs.Fields.{Bytes}
use Rattle.client_reader.specs.Inner.{all_below}
use Rattle.client_reader.proofs.Types.{all_below_lem}
use Rattle.history.specs.Events.{Arrival, outcome, replied, run}

-- ---- The calls

abbrev pub from : ℕ → ℕ → TransportAddress
from address port = record { address = V4 address; port = port }

-- 'Server and relay are 203.0.113.5:3478'
abbrev pub caller : FiveTuple
caller = record { client = from 0xc633_6407 40000; server = from 0xcb00_7105 3478; protocol = 17 }

abbrev pub room : List ℕ
room = replicate 1536 0

abbrev pub allocate_bytes : List ℕ
allocate_bytes = 0x00 ∷ 0x03 ∷ 0x00 ∷ 0x08 ∷ 0x21 ∷ 0x12 ∷ 0xa4 ∷ 0x42 ∷ 0x00 ∷ 0x01 ∷ 0x02 ∷ 0x03 ∷ 0x04 ∷ 0x05 ∷ 0x06 ∷ 0x07 ∷ 0x08 ∷ 0x09 ∷ 0x0a ∷ 0x0b ∷ 0x00 ∷ 0x19 ∷ 0x00 ∷ 0x04 ∷ 0x11 ∷ 0x00 ∷ 0x00 ∷ 0x00 ∷ []

abbrev pub permission_bytes : List ℕ
permission_bytes = 0x00 ∷ 0x08 ∷ 0x00 ∷ 0x0c ∷ 0x21 ∷ 0x12 ∷ 0xa4 ∷ 0x42 ∷ 0x10 ∷ 0x11 ∷ 0x12 ∷ 0x13 ∷ 0x14 ∷ 0x15 ∷ 0x16 ∷ 0x17 ∷ 0x18 ∷ 0x19 ∷ 0x1a ∷ 0x1b ∷ 0x00 ∷ 0x12 ∷ 0x00 ∷ 0x08 ∷ 0x00 ∷ 0x01 ∷ 0x21 ∷ 0x12 ∷ 0xe1 ∷ 0x12 ∷ 0xa6 ∷ 0xd4 ∷ []

abbrev pub data_bytes : List ℕ
data_bytes = 0x68 ∷ 0x69 ∷ []

pub allocate_bytes_lem : Bytes allocate_bytes
unfolding all_below both
allocate_bytes_lem = all_below_lem 256 allocate_bytes (lit< tt) refl

pub permission_bytes_lem : Bytes permission_bytes
unfolding all_below both
permission_bytes_lem = all_below_lem 256 permission_bytes (lit< tt) refl

pub data_bytes_lem : Bytes data_bytes
unfolding all_below both
data_bytes_lem = all_below_lem 256 data_bytes (lit< tt) refl

abbrev pub allocating : Arrival
allocating = record {
  call = client_datagram 1000 3 5 0xcb00_7105 caller;
  datagram = allocate_bytes;
  reply = room;
  denied = none_denied;
  call_fits = (lit< tt, (lit< tt, lit< tt), (lit< tt, lit< tt), lit< tt, lit< tt, lit< tt, lit< tt);
  bytes = allocate_bytes_lem;
}

abbrev permitting : Arrival
permitting = record {
  call = client_datagram 1010 3 0 0xcb00_7105 caller;
  datagram = permission_bytes;
  reply = room;
  denied = none_denied;
  call_fits = (lit< tt, (lit< tt, lit< tt), (lit< tt, lit< tt), lit< tt, lit< tt, lit< tt, lit< tt);
  bytes = permission_bytes_lem;
}

-- 'the twelve bytes are zero'
abbrev pub coming : (time : ℕ) → time < 2 ^ 64 → Arrival
coming time fits = record {
  call = peer_datagram time (from 0xc000_0296 5000) 49157 (record { high = 0; middle = 0; low = 0 });
  datagram = data_bytes;
  reply = room;
  denied = none_denied;
  call_fits = ((lit< tt, lit< tt), (lit< tt, lit< tt, lit< tt), lit< tt, fits);
  bytes = data_bytes_lem;
}

-- ---- The answers

-- 'S': these bytes go to the client
pub record Sends (st : State) (a : Arrival) (message : List ℕ) : Type 0 where
  pub to : outcome st a ≡ ToClient caller (length message)
  pub holds : take (length message) (replied st a) ≡ message

-- the four lines, and the listing's: 'A 0 3 c6336407 40000 cb007105 3478 49157 1600'
pub record Sample : Type 0 where
  pub allocate_line : Sends empty allocating (0x01 ∷ 0x03 ∷ 0x00 ∷ 0x20 ∷ 0x21 ∷ 0x12 ∷ 0xa4 ∷ 0x42 ∷ 0x00 ∷ 0x01 ∷ 0x02 ∷ 0x03 ∷ 0x04 ∷ 0x05 ∷ 0x06 ∷ 0x07 ∷ 0x08 ∷ 0x09 ∷ 0x0a ∷ 0x0b ∷ 0x00 ∷ 0x16 ∷ 0x00 ∷ 0x08 ∷ 0x00 ∷ 0x01 ∷ 0xe1 ∷ 0x17 ∷ 0xea ∷ 0x12 ∷ 0xd5 ∷ 0x47 ∷ 0x00 ∷ 0x0d ∷ 0x00 ∷ 0x04 ∷ 0x00 ∷ 0x00 ∷ 0x02 ∷ 0x58 ∷ 0x00 ∷ 0x20 ∷ 0x00 ∷ 0x08 ∷ 0x00 ∷ 0x01 ∷ 0xbd ∷ 0x52 ∷ 0xe7 ∷ 0x21 ∷ 0xc0 ∷ 0x45 ∷ [])
  pub permission_line : Sends (run empty (allocating ∷ [])) permitting (0x01 ∷ 0x08 ∷ 0x00 ∷ 0x00 ∷ 0x21 ∷ 0x12 ∷ 0xa4 ∷ 0x42 ∷ 0x10 ∷ 0x11 ∷ 0x12 ∷ 0x13 ∷ 0x14 ∷ 0x15 ∷ 0x16 ∷ 0x17 ∷ 0x18 ∷ 0x19 ∷ 0x1a ∷ 0x1b ∷ [])
  pub carried_line : Sends (run empty (allocating ∷ permitting ∷ [])) (coming 1309 (lit< tt)) (0x00 ∷ 0x17 ∷ 0x00 ∷ 0x14 ∷ 0x21 ∷ 0x12 ∷ 0xa4 ∷ 0x42 ∷ 0x00 ∷ 0x00 ∷ 0x00 ∷ 0x00 ∷ 0x00 ∷ 0x00 ∷ 0x00 ∷ 0x00 ∷ 0x00 ∷ 0x00 ∷ 0x00 ∷ 0x00 ∷ 0x00 ∷ 0x12 ∷ 0x00 ∷ 0x08 ∷ 0x00 ∷ 0x01 ∷ 0x32 ∷ 0x9a ∷ 0xe1 ∷ 0x12 ∷ 0xa6 ∷ 0xd4 ∷ 0x00 ∷ 0x13 ∷ 0x00 ∷ 0x02 ∷ 0x68 ∷ 0x69 ∷ 0x00 ∷ 0x00 ∷ [])
  pub dropped_line : outcome (run empty (allocating ∷ permitting ∷ coming 1309 (lit< tt) ∷ [])) (coming 1310 (lit< tt)) ≡ DroppedLapsed
  pub listed : (slot_at (run empty (allocating ∷ permitting ∷ coming 1309 (lit< tt) ∷ coming 1310 (lit< tt) ∷ [])).slots 0).allocation
      ≡ record { user = 3; five_tuple = caller; port = 49157; expiry = 1600 }

pub sample : Sample
unfolding act refusal asked_by sorted is_well_formed walk walk_f step_at next_at num decided allocate respond repeats allocate_code request_code check any_unknown unknown_types unknown_numbers attributes_from is_integrity is_unknown attribute_kind_of find holds holds_user holds_port live_allocation both same_five_tuple same_transport_address same_address fresh_slot number_value first_of count port_for first_free ports_held allocated allocate_success bytes_of transaction_id_of accepted create_permission create_permission_code own_code permit_all permit_peer permit permission_entry entry put_at permits free_permission live_permission any malformed_peer ipv6_peer peers_from peers_of address_at v4_at bare_success relay_from_peer peer_cause unless_dropped permission_of permission_state entered relayed leads_to live_channel is_channel_number at_or data_indication denied denied_below
sample = record {
  allocate_line = record { to = refl; holds = refl };
  permission_line = record { to = refl; holds = refl };
  carried_line = record { to = refl; holds = refl };
  dropped_line = refl;
  listed = refl;
}
