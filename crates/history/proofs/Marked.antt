-- Document 01's marked cases, 'Both sides of each edge', and a repeated Allocate: each is the last of a list of calls to a fresh relay, and one
-- table has what each does: the clock and all slots afterwards, and the bytes that go to the client. Computed through the whole step.
use Prim.Native.Nat.{ℕ, ◌+◌}
use mathlib.Core.Path.{◌≡◌, refl}
use mathlib.Core.List.{List, [], ◌∷◌, ◌++◌}
use lib.ListN.{replicate}
use Rattle.wire.specs.Wire.{num, bytes_of}
use Rattle.choice.specs.Choice.{both, any}
use Rattle.address.specs.declared.Address.TheVariants.{V4}
use Rattle.address.specs.declared.FiveTuple.{FiveTuple}
use Rattle.address.specs.declared.TransportAddress.{TransportAddress}
use Rattle.address.specs.Address.{same_address, same_transport_address, same_five_tuple, same_transaction_id}
use Rattle.stun.specs.Kinds.{attribute_kind_of}
use Rattle.stun.specs.Message.{sorted, next_at, step_at, walk_f, walk, is_well_formed, is_integrity, is_unknown, attributes_from, first_of, unknown_numbers, unknown_types}
use Rattle.stun.specs.Values.{transaction_id_of, v4_at, address_at, peers_of, peers_from, first_peer, number_value}
use Rattle.messages.specs.Messages.{error_response, allocate_success, refresh_success, bare_success, data_indication}
use Rattle.slot.specs.declared.Permission.{Permission}
use Rattle.slot.specs.declared.Channel.{Channel}
use Rattle.slot.specs.Search.{find, entry, put_at, at_or}
use Rattle.slot.specs.Slot.{live_allocation, live_permission, live_channel, fresh_transaction_id, fresh_permission, fresh_channel, fresh_slot, is_channel_number, holds, holds_user, holds_port, permits, entered, permission_state, free_permission, permission_entry, permit, numbered, leads_to, number_taken, peer_taken, free_channel, channel_entry, bind}
use Rattle.table.specs.Table.{count}
use Rattle.rules.specs.Change.{permission_lapsed, Out, dropped, to_client, check, error_message, respond}
use Rattle.rules.specs.Values.{any_unknown, malformed_peer, ipv6_peer}
use Rattle.rules.specs.Requests.{request_code, own_code}
use Rattle.allocation_rules.specs.Allocations.{repeats, allocate_code, allocated, seconds_left, allocate, refresh_code, renewed, refreshed, refresh, first_free, port_for}
use Rattle.permission_rules.specs.Permissions.{permit_peer, permit_all, create_permission_code, create_permission, bound, channel_bind_code, channel_bind}
use Rattle.data_rules.specs.Data.{permission_of, unless_dropped, relayed, peer_cause, relay_from_peer}
use Rattle.decisions.specs.Client.{asked_by}
use Rattle.interface.specs.declared.incoming.Call.{Call}
use Rattle.denied.specs.Tree.{denied_below, denied}
use Rattle.state.specs.State.{State, state, fresh_bookkeeping, at_clock, at_time, empty}
use Rattle.state.specs.Outcomes.{Act, accept, state_after}
use Rattle.interface.specs.Refusals.{client_datagram, peer_datagram, refusal}
use Rattle.decisions.specs.Decisions.{ports_held, decided}
use Rattle.state.specs.Step.{accepted, act}

-- ---- The calls, each with its datagram

-- the peer
abbrev source : TransportAddress
source = record { address = V4 0xc0000296; port = 5000 }

abbrev client : FiveTuple
client = record { client = record { address = V4 0xc6336407; port = 40000 }; server = record { address = V4 0xcb007105; port = 3478 }; protocol = 17 }

abbrev header : (class type len : ℕ) → List ℕ
header class type len = class ∷ type ∷ 0 ∷ len ∷ 0x21 ∷ 0x12 ∷ 0xa4 ∷ 0x42 ∷ replicate 12 0

-- REQUESTED-TRANSPORT 17
abbrev transport : List ℕ
transport = 0 ∷ 0x19 ∷ 0 ∷ 4 ∷ 17 ∷ 0 ∷ 0 ∷ 0 ∷ []

-- LIFETIME
abbrev lifetime : ℕ → List ℕ
lifetime seconds = 0 ∷ 0x0d ∷ 0 ∷ 4 ∷ bytes_of 4 seconds

-- CHANNEL-NUMBER
abbrev channel : ℕ → List ℕ
channel number = 0 ∷ 0x0c ∷ 0 ∷ 4 ∷ bytes_of 2 number ++ 0 ∷ 0 ∷ []

-- XOR-PEER-ADDRESS of the peer
abbrev peer_address : List ℕ
peer_address = 0 ∷ 0x12 ∷ 0 ∷ 8 ∷ 0 ∷ 1 ∷ 0x32 ∷ 0x9a ∷ 0xe1 ∷ 0x12 ∷ 0xa6 ∷ 0xd4 ∷ []

abbrev Arrival : Type 0
Arrival = Call × List ℕ

-- a request of user 3, with port start 5
abbrev request : (time : ℕ) → List ℕ → Arrival
request time datagram = (client_datagram time 3 5 0xcb007105 client, datagram)

abbrev allocate_at : (time seconds : ℕ) → Arrival
allocate_at time seconds = request time (header 0 3 16 ++ transport ++ lifetime seconds)

abbrev allocate_with : ℕ → Arrival
allocate_with seconds = allocate_at 1000 seconds

abbrev refresh_with : ℕ → Arrival
refresh_with seconds = request 1010 (header 0 4 8 ++ lifetime seconds)

abbrev bind_with : ℕ → Arrival
bind_with number = request 1010 (header 0 9 20 ++ channel number ++ peer_address)

abbrev permit1010 : Arrival
permit1010 = request 1010 (header 0 8 12 ++ peer_address)

-- two bytes from the peer
abbrev data_at : (time : ℕ) → Arrival
data_at time = (peer_datagram time source 49157 (record { high = 0; middle = 0; low = 0 }), 0x68 ∷ 0x69 ∷ [])

-- ---- What a call does after those before it

abbrev does : State → Arrival → Act
does st arrival = act st arrival.0 arrival.1 1536

abbrev after : State → List Arrival → State
after st [] = st
after st (arrival ∷ rest) = after (state_after st (does st arrival)) rest

-- ---- What comes of it: the clock, the slots, and the bytes that go to the client

-- the first slot has the allocation, the others are fresh
abbrev holding : (time expiry : ℕ) → List Permission → List Channel → State
holding time expiry permissions channels = state (record {
  allocation = record { user = 3; five_tuple = client; port = 49157; expiry = expiry };
  transaction_id = fresh_transaction_id;
  permissions = permissions;
  channels = channels;
} ∷ replicate 63 fresh_slot) (at_clock time fresh_bookkeeping)

abbrev unpermitted : List Permission
unpermitted = replicate 8 fresh_permission

-- the peer's permission, made at 1010
abbrev permitted1010 : List Permission
permitted1010 = record { address = V4 0xc0000296; expiry = 1310 } ∷ replicate 7 fresh_permission

abbrev unbound : List Channel
unbound = replicate 8 fresh_channel

-- the peer's channel, bound at 1010
abbrev bound1010 : ℕ → List Channel
bound1010 number = record { number = number; peer = source; expiry = 1610 } ∷ replicate 7 fresh_channel

-- XOR-RELAYED-ADDRESS, LIFETIME, XOR-MAPPED-ADDRESS
abbrev told : ℕ → Out
told seconds =
    to_client client (header 1 3 32 ++ (0 ∷ 0x16 ∷ 0 ∷ 8 ∷ 0 ∷ 1 ∷ 0xe1 ∷ 0x17 ∷ 0xea ∷ 0x12 ∷ 0xd5 ∷ 0x47 ∷ []) ++ lifetime seconds ++ (0 ∷ 0x20 ∷ 0 ∷ 8 ∷ 0 ∷ 1 ∷ 0xbd ∷ 0x52 ∷ 0xe7 ∷ 0x21 ∷ 0xc0 ∷ 0x45 ∷ []))

-- the allocation for so many seconds
abbrev allocates : (time seconds : ℕ) → Act
allocates time seconds = accept (holding time (time + seconds) unpermitted unbound) (told seconds)

abbrev refreshes : State → ℕ → Act
refreshes next seconds = accept next (to_client client (header 1 4 8 ++ lifetime seconds))

-- the error 400, and everything as it was but the clock
abbrev refuses_channel : Act
refuses_channel = accept (holding 1010 1600 unpermitted unbound) (to_client client (header 1 0x19 8 ++ 0 ∷ 0x09 ∷ 0 ∷ 4 ∷ 0 ∷ 0 ∷ 4 ∷ 0 ∷ []))

abbrev binds : ℕ → Act
binds number = accept (holding 1010 1600 permitted1010 (bound1010 number)) (to_client client (header 1 9 0))

-- ---- The table

-- to a fresh relay come these calls, and then this one does that
abbrev Then : List Arrival → Arrival → Act → Type 0
Then before arrival it = does (after empty before) arrival ≡ it

-- an allocation made at 1000, to 1600
abbrev allocation : List Arrival
allocation = allocate_with 600 ∷ []

-- and a permission for the peer made at 1010
abbrev permission : List Arrival
permission = allocate_with 600 ∷ permit1010 ∷ []

pub record Marked : Type 0 where
  -- 'Allocate LIFETIME 0 gives 600, 600 gives 600, 601 gives 601, 3600 and 3601 give 3600'
  pub allocate_0 : Then [] (allocate_with 0) (allocates 1000 600)
  pub allocate_600 : Then [] (allocate_with 600) (allocates 1000 600)
  pub allocate_601 : Then [] (allocate_with 601) (allocates 1000 601)
  pub allocate_3600 : Then [] (allocate_with 3600) (allocates 1000 3600)
  pub allocate_3601 : Then [] (allocate_with 3601) (allocates 1000 3600)
  -- request 1: the same Allocate again is told the second that is left, and where none is, it is a new one
  pub repeat_1599 : Then allocation (allocate_at 1599 600) (accept (holding 1599 1600 unpermitted unbound) (told 1))
  pub repeat_1600 : Then allocation (allocate_at 1600 600) (allocates 1600 600)
  -- 'Refresh 0 gives 0, 1 gives 600'
  pub refresh_0 : Then allocation (refresh_with 0) (refreshes (at_time 1010 empty) 0)
  pub refresh_1 : Then allocation (refresh_with 1) (refreshes (holding 1010 1610 unpermitted unbound) 600)
  -- 'channel 0x3FFF 400, 0x4000 and 0x4FFF taken, 0x5000 400'
  pub channel_3fff : Then allocation (bind_with 0x3fff) refuses_channel
  pub channel_4000 : Then allocation (bind_with 0x4000) (binds 0x4000)
  pub channel_4fff : Then allocation (bind_with 0x4fff) (binds 0x4fff)
  pub channel_5000 : Then allocation (bind_with 0x5000) refuses_channel
  -- 'permission made at 1010 carries at 1309 and not at 1310'
  pub permission_1309 : Then permission (data_at 1309)
      (accept (holding 1309 1600 permitted1010 unbound) (to_client client (header 0 0x17 20 ++ peer_address ++ 0 ∷ 0x13 ∷ 0 ∷ 2 ∷ 0x68 ∷ 0x69 ∷ 0 ∷ 0 ∷ [])))
  pub permission_1310 : Then permission (data_at 1310) (accept (holding 1310 1600 permitted1010 unbound) (dropped permission_lapsed))

pub marked : Marked
unfolding act refusal decided accepted ports_held asked_by permission_state entered permission_of unless_dropped peer_cause relayed relay_from_peer request_code own_code repeats allocate_code allocated seconds_left allocate refresh_code renewed refreshed refresh permit_peer permit_all create_permission_code create_permission bound channel_bind_code channel_bind first_free port_for any_unknown any malformed_peer ipv6_peer check error_message respond live_allocation live_permission live_channel fresh_slot is_channel_number holds holds_user holds_port permits free_permission permission_entry permit numbered leads_to number_taken peer_taken free_channel channel_entry bind find entry put_at at_or count error_response allocate_success refresh_success bare_success data_indication transaction_id_of v4_at address_at peers_of peers_from first_peer number_value sorted next_at step_at walk_f walk is_well_formed is_integrity is_unknown attributes_from first_of unknown_numbers unknown_types attribute_kind_of same_address same_transport_address same_five_tuple same_transaction_id both num bytes_of denied denied_below
marked = record {
  allocate_0 = refl;
  allocate_600 = refl;
  allocate_601 = refl;
  allocate_3600 = refl;
  allocate_3601 = refl;
  repeat_1599 = refl;
  repeat_1600 = refl;
  refresh_0 = refl;
  refresh_1 = refl;
  channel_3fff = refl;
  channel_4000 = refl;
  channel_4fff = refl;
  channel_5000 = refl;
  permission_1309 = refl;
  permission_1310 = refl;
}
