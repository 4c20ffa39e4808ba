-- Lists of calls that show each way in which a datagram goes to a client, computed through the definitions: what they count as, and the outcome.
use Prim.Native.Nat.{ℕ}
use mathlib.Core.Path.{◌≡◌, refl}
use mathlib.Core.List.{List, [], ◌∷◌}
use lib.Dec.{lit<}
use Rattle.wire.specs.Wire.{num, bytes_of}
use Rattle.choice.specs.Choice.{both, any}
use Rattle.address.specs.declared.Address.TheVariants.{V4}
use Rattle.address.specs.declared.FiveTuple.{FiveTuple}
use Rattle.address.specs.Address.{same_address, same_transport_address, same_five_tuple}
use Rattle.stun.specs.Kinds.{attribute_kind_of}
use Rattle.stun.specs.Message.{sorted, next_at, step_at, walk_f, walk, is_well_formed, is_integrity, is_unknown, attributes_from, first_of, unknown_numbers, unknown_types}
use Rattle.stun.specs.Values.{transaction_id_of, v4_at, address_at, peers_of, peers_from, first_peer, number_value}
use Rattle.messages.specs.Messages.{message_bytes, allocate_success, refresh_success, bare_success, data_indication, channel_data}
use Rattle.slot.specs.Search.{find, entry, put_at, at_or}
use Rattle.slot.specs.Slot.{live_allocation, live_permission, fresh_slot, is_channel_number, live_channel, holds, holds_user, holds_port, permits, entered, permission_state, free_permission, permission_entry, permit, numbered, leads_to, number_taken, peer_taken, free_channel, channel_entry, bind}
use Rattle.table.specs.Table.{count}
use Rattle.rules.specs.declared.answer.Outcome.TheVariants.{DroppedLapsed, DroppedNever, DroppedOther, ToClient}
use Rattle.rules.specs.Change.{check, respond}
use Rattle.rules.specs.Values.{any_unknown, malformed_peer, ipv6_peer}
use Rattle.rules.specs.Requests.{request_code, own_code}
use Rattle.allocation_rules.specs.Allocations.{repeats, allocate_code, allocated, allocate, refresh_code, renewed, refreshed, refresh, first_free, port_for}
use Rattle.permission_rules.specs.Permissions.{permit_peer, permit_all, create_permission_code, create_permission, bound, channel_bind_code, channel_bind}
use Rattle.data_rules.specs.Data.{permission_of, unless_dropped, relayed, peer_cause, relay_from_peer}
use Rattle.decisions.specs.Client.{asked_by}
use Rattle.interface.specs.declared.incoming.Call.{Call}
use Rattle.denied.specs.Tree.{denied_below, denied, none_denied}
use Rattle.state.specs.State.{empty}
use Rattle.interface.specs.Refusals.{client_datagram, refusal}
use Rattle.decisions.specs.Decisions.{ports_held, decided}
use Rattle.state.specs.Step.{accepted, act}
use Rattle.client_reader.specs.Fields.{Bytes}
use Rattle.client_reader.specs.Reader.{message_in}
use Rattle.client_reader.specs.Inner.{all_below, allocate_fields, refresh_fields, bare_fields, fields_of, same_bytes, checked}
use Rattle.client_reader.proofs.Types.{all_below_lem}
use Rattle.history.specs.Counted.{Counted, gave, kept, allowed, granted}
use Rattle.history.specs.Events.{CallFits, Arrival, outcome, run, events, counted}
use Rattle.history.proofs.Sample.{from, caller, room, allocate_bytes, permission_bytes, allocate_bytes_lem, permission_bytes_lem, allocating, coming}

-- ---- The calls

abbrev other : FiveTuple
other = record { client = from 0xc633_6408 40000; server = from 0xcb00_7105 3478; protocol = 17 }

abbrev refresh_bytes : List ℕ
refresh_bytes = 0x00 ∷ 0x04 ∷ 0x00 ∷ 0x00 ∷ 0x21 ∷ 0x12 ∷ 0xa4 ∷ 0x42 ∷ 0x20 ∷ 0x21 ∷ 0x22 ∷ 0x23 ∷ 0x24 ∷ 0x25 ∷ 0x26 ∷ 0x27 ∷ 0x28 ∷ 0x29 ∷ 0x2a ∷ 0x2b ∷ []

-- channel 0x4000 for 192.0.2.150:5000
abbrev bind_bytes : List ℕ
bind_bytes = 0x00 ∷ 0x09 ∷ 0x00 ∷ 0x14 ∷ 0x21 ∷ 0x12 ∷ 0xa4 ∷ 0x42 ∷ 0x10 ∷ 0x11 ∷ 0x12 ∷ 0x13 ∷ 0x14 ∷ 0x15 ∷ 0x16 ∷ 0x17 ∷ 0x18 ∷ 0x19 ∷ 0x1a ∷ 0x1b ∷ 0x00 ∷ 0x0c ∷ 0x00 ∷ 0x04 ∷ 0x40 ∷ 0x00 ∷ 0x00 ∷ 0x00 ∷ 0x00 ∷ 0x12 ∷ 0x00 ∷ 0x08 ∷ 0x00 ∷ 0x01 ∷ 0x32 ∷ 0x9a ∷ 0xe1 ∷ 0x12 ∷ 0xa6 ∷ 0xd4 ∷ []

pub refresh_bytes_lem : Bytes refresh_bytes
unfolding all_below both
refresh_bytes_lem = all_below_lem 256 refresh_bytes (lit< tt) refl

pub bind_bytes_lem : Bytes bind_bytes
unfolding all_below both
bind_bytes_lem = all_below_lem 256 bind_bytes (lit< tt) refl

abbrev asking : (call : Call) → CallFits call → (datagram : List ℕ) → Bytes datagram → Arrival
asking call fits datagram bytes = record { call = call; datagram = datagram; reply = room; denied = none_denied; call_fits = fits; bytes = bytes }

abbrev refreshing : Arrival
refreshing =
    asking (client_datagram 1500 3 0 0xcb00_7105 caller) (lit< tt, (lit< tt, lit< tt), (lit< tt, lit< tt), lit< tt, lit< tt, lit< tt, lit< tt) refresh_bytes refresh_bytes_lem

abbrev permitting : Arrival
permitting =
    asking (client_datagram 1900 3 0 0xcb00_7105 caller) (lit< tt, (lit< tt, lit< tt), (lit< tt, lit< tt), lit< tt, lit< tt, lit< tt, lit< tt) permission_bytes permission_bytes_lem

abbrev binding : Arrival
binding =
    asking (client_datagram 1010 3 0 0xcb00_7105 caller) (lit< tt, (lit< tt, lit< tt), (lit< tt, lit< tt), lit< tt, lit< tt, lit< tt, lit< tt) bind_bytes bind_bytes_lem

abbrev other_allocating : Arrival
other_allocating =
    asking (client_datagram 1600 4 5 0xcb00_7105 other) (lit< tt, (lit< tt, lit< tt), (lit< tt, lit< tt), lit< tt, lit< tt, lit< tt, lit< tt) allocate_bytes allocate_bytes_lem

abbrev other_permitting : Arrival
other_permitting =
    asking (client_datagram 1610 4 0 0xcb00_7105 other) (lit< tt, (lit< tt, lit< tt), (lit< tt, lit< tt), lit< tt, lit< tt, lit< tt, lit< tt) permission_bytes permission_bytes_lem

-- ---- The witnesses

-- these calls count as this, the newest first, and after them the datagram goes to C with n bytes
pub record Shows (calls : List Arrival) (past : List Counted) (datagram : Arrival) (C : FiveTuple) (n : ℕ) : Type 0 where
  pub counted_is : counted [] (events empty calls) ≡ past
  pub goes : outcome (run empty calls) datagram ≡ ToClient C n

pub record Witnesses : Type 0 where
  -- the Allocate's lifetime is over at 1600, the Refresh's at 2100
  pub by_refresh : Shows (allocating ∷ refreshing ∷ permitting ∷ [])
      (allowed caller (V4 0xc000_0296 ∷ []) 2200 ∷ kept caller 1500 600 ∷ gave caller 49157 1000 600 ∷ []) (coming 2099 (lit< tt)) caller 40
  pub refresh_over : outcome (run empty (allocating ∷ refreshing ∷ permitting ∷ [])) (coming 2100 (lit< tt)) ≡ DroppedOther
  -- a ChannelBind is a permission too, and what comes is ChannelData
  pub by_channel : Shows (allocating ∷ binding ∷ []) (allowed caller (V4 0xc000_0296 ∷ []) 1310 ∷ gave caller 49157 1000 600 ∷ []) (coming 1309 (lit< tt)) caller 6
  -- it lives longer than its permission, whose end is the cause
  pub channel_over : outcome (run empty (allocating ∷ binding ∷ [])) (coming 1310 (lit< tt)) ≡ DroppedLapsed
  -- nothing was asked for the peer
  pub never_asked : outcome (run empty (allocating ∷ [])) (coming 1310 (lit< tt)) ≡ DroppedNever
  -- the port of a lapsed allocation, given to another client
  pub port_again : Shows (allocating ∷ other_allocating ∷ other_permitting ∷ [])
      (allowed other (V4 0xc000_0296 ∷ []) 1910 ∷ gave other 49157 1600 600 ∷ gave caller 49157 1000 600 ∷ []) (coming 1700 (lit< tt)) other 40

pub witnesses : Witnesses
unfolding act refusal asked_by sorted is_well_formed walk walk_f step_at next_at num decided allocate respond repeats allocate_code request_code check any_unknown unknown_types unknown_numbers attributes_from is_integrity is_unknown attribute_kind_of find holds holds_user holds_port live_allocation both same_five_tuple same_transport_address same_address fresh_slot number_value first_of count port_for first_free ports_held allocated allocate_success bytes_of transaction_id_of accepted refresh_code renewed refreshed refresh refresh_success create_permission create_permission_code own_code permit_all permit_peer permit permission_entry entry put_at permits free_permission live_permission any malformed_peer ipv6_peer peers_from peers_of first_peer address_at v4_at bare_success message_bytes bound channel_bind_code channel_bind numbered number_taken peer_taken free_channel channel_entry bind relay_from_peer peer_cause unless_dropped permission_of permission_state entered relayed leads_to live_channel is_channel_number at_or data_indication channel_data message_in checked fields_of same_bytes allocate_fields refresh_fields bare_fields granted denied denied_below
witnesses = record {
  by_refresh = record { counted_is = refl; goes = refl };
  refresh_over = refl;
  by_channel = record { counted_is = refl; goes = refl };
  channel_over = refl;
  never_asked = refl;
  port_again = record { counted_is = refl; goes = refl };
}
