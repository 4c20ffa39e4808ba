-- Demand 2's last words: every message that the relay writes is read back by its own reader as the fields that went in. Here are the fields
-- that go in, from the call, its datagram, and the slots before and after the call.
use Rattle.std.specs.Prelude.{ℕ, ◌-◌, ◌≡◌, Option, Some, None, IsSome, IfSome, List, [], ◌++◌, eqb, length, take, replicate}
use Rattle.choice.specs.Choice.{pick}
use Rattle.address.specs.declared.FiveTuple.{FiveTuple}
use Rattle.stun.specs.declared.kinds.Method.{Method}
use Rattle.stun.specs.declared.kinds.Method.TheVariants.{Allocate, Refresh, CreatePermission, ChannelBind}
use Rattle.stun.specs.Message.{unknown_types}
use Rattle.stun.specs.Values.{transaction_id_of}
use Rattle.std.specs.Prelude.{Option}
use Rattle.slot.specs.declared.Slot.{Slot}
use Rattle.slot.specs.Search.{find, has, or_else, at_or}
use Rattle.slot.specs.Slot.{fresh_channel, holds_port, leads_to}
use Rattle.table.specs.Table.{in_slot, lapsed}
use Rattle.rules.specs.declared.answer.Outcome.TheVariants.{ToClient}
use Rattle.decisions.specs.declared.client.Asked.{Asked}
use Rattle.decisions.specs.Client.{asked_by}
use Rattle.rules.specs.Values.{ipv4_of}
use Rattle.allocation_rules.specs.Allocations.{repeats, allocate_code, seconds_left, refresh_code}
use Rattle.permission_rules.specs.Permissions.{create_permission_code, channel_bind_code}
use Rattle.permission_rules.specs.Denials.{any_denied, first_denied}
use Rattle.interface.specs.declared.incoming.Call.{Call}
use Rattle.interface.specs.declared.incoming.Call.TheVariants.{Client, Peer}
use Rattle.interface.specs.declared.incoming.FromClient.{FromClient}
use Rattle.interface.specs.declared.incoming.FromPeer.{FromPeer}
use Rattle.state.specs.State.{State}
use Rattle.decisions.specs.Decisions.{as_rules, own_place, slot_in, room_for}
use Rattle.state.specs.Step.{Stepped}
use Rattle.client_reader.specs.declared.Message.{Message}
use Rattle.client_reader.specs.declared.Message.TheVariants.{AllocateSuccess, RefreshSuccess, BareSuccess, Error, UnknownAttributes, DataIndication, ChannelData}
use Rattle.client_reader.specs.Fields.{data_of, Exact}
use Rattle.client_reader.specs.Reader.{message_in}
use Rattle.history.specs.Events.{Arrival}
use Rattle.history.specs.Fits.{StateFits}

-- ---- The slot that a call is about

-- beside the caller's own: of Allocate 'the lowest such slot', one that isn't live; of a peer's datagram the live slot with the port
abbrev pub free_place : FromClient → List Slot → Option ℕ
free_place call slots = find (in_slot (lapsed call.time)) slots

abbrev pub port_place : FromPeer → List Slot → Option ℕ
port_place call slots = find (in_slot (holds_port call.time call.port)) slots

-- ---- Responses

-- the code of the first check that applies, by the slots before the call and the tree of denied prefixes; 0 where none does
abbrev pub code_for : (denied : List ℕ) → FromClient → List ℕ → List Slot → Method → ℕ
code_for denied call s before Allocate =
    let place = own_place call before in
    allocate_code (as_rules call) s (repeats (as_rules call) s (has place) (slot_in before place)) (room_for call before)
code_for denied call s before Refresh = let place = own_place call before in refresh_code (as_rules call) s (has place) (slot_in before place)
code_for denied call s before CreatePermission =
    let place = own_place call before in create_permission_code (as_rules call) s (any_denied denied s) (has place) (slot_in before place)
code_for denied call s before ChannelBind =
    let place = own_place call before in channel_bind_code (as_rules call) s (first_denied denied s) (has place) (slot_in before place)

-- 'Reply: XOR-RELAYED-ADDRESS 0x0016, LIFETIME, XOR-MAPPED-ADDRESS 0x0020 (the client).', 'Reply: LIFETIME granted.', 'a bare 20-byte header':
-- the port is that of the slot after the call, and LIFETIME the seconds until its expiry, 0 where the slot is fresh. An Allocate's slot is the
-- caller's own where it had one, which is a repeat's, or else the one that it takes
abbrev pub success_for : FromClient → List ℕ → (before after : List Slot) → Method → Message
success_for call s before after Allocate =
    let allocation = (slot_in after (or_else (own_place call before) (free_place call before))).allocation in
    AllocateSuccess (transaction_id_of s) call.relay allocation.port (seconds_left call.time allocation.expiry) call.five_tuple.client
success_for call s before after Refresh = RefreshSuccess (transaction_id_of s) ((slot_in after (own_place call before)).allocation.expiry - call.time)
success_for call s before after CreatePermission = BareSuccess CreatePermission (transaction_id_of s)
success_for call s before after ChannelBind = BareSuccess ChannelBind (transaction_id_of s)

-- 'UNKNOWN-ATTRIBUTES 0x000A: the first 16 unknown types as met', in an array of 16
abbrev pub unknown_for : Method → List ℕ → Message
unknown_for method s =
    let types = unknown_types s in
    UnknownAttributes method (transaction_id_of s) (types ++ replicate (16 - length types) 0) (length types)

-- 'An error carries ERROR-CODE', 'A 420 adds UNKNOWN-ATTRIBUTES'
abbrev pub error_for : Method → List ℕ → ℕ → Message
error_for method s code = pick (eqb code 420) (unknown_for method s) (Error method (transaction_id_of s) code)

abbrev pub response_for : (denied : List ℕ) → FromClient → List ℕ → (before after : List Slot) → Method → Message
response_for denied call s before after method =
    let code = code_for denied call s before method in
    pick (eqb code 0) (success_for call s before after method) (error_for method s code)

-- ---- Data

-- 'If the peer has a live channel, ChannelData ..; else a Data indication 0x0017 with XOR-PEER-ADDRESS then DATA'. The data is len bytes, from
-- the place on where it stands in each
abbrev pub relayed_for : FromPeer → ℕ → Slot → Message
relayed_for call len slot =
    let channel = find (leads_to call.time call.source) slot.channels in
    pick (has channel)
    (ChannelData (at_or fresh_channel channel slot.channels).number 4 len)
    (DataIndication call.id (ipv4_of call.source.address) call.source.port 36 len)

-- ---- Every call

-- what a client's datagram is answered with, by what it asks: a Send or ChannelData is not answered
abbrev pub answer_for : (denied : List ℕ) → FromClient → List ℕ → (before after : List Slot) → Asked → Option Message
answer_for denied call s before after Asked.Allocate = Some (response_for denied call s before after Allocate)
answer_for denied call s before after Asked.Refresh = Some (response_for denied call s before after Refresh)
answer_for denied call s before after Asked.CreatePermission = Some (response_for denied call s before after CreatePermission)
answer_for denied call s before after Asked.ChannelBind = Some (response_for denied call s before after ChannelBind)
answer_for denied call s before after Asked.Send = None
answer_for denied call s before after Asked.ChannelData = None
answer_for denied call s before after Asked.Nothing = None

-- the fields that go into what is sent to a client
abbrev pub fields_for : (denied : List ℕ) → Call → List ℕ → (before after : List Slot) → Option Message
fields_for denied (Client call) s before after = answer_for denied call s before after (asked_by s)
fields_for denied (Peer call) s before after = Some (relayed_for call (length s) (slot_in after (port_place call before)))

-- and the data: a peer's datagram
abbrev pub data_for : Call → List ℕ → List ℕ
data_for (Client call) s = []
data_for (Peer call) s = s

-- ---- Read back

pub record ReadAs (fields : Option Message) (payload message : List ℕ) : Type 0 where
  -- the message is read as these fields, by what `read_message` promises, and no other fields make it
  pub is_message : IsSome fields
  pub exact : Exact message fields
  -- the same reading as a function, by which demand 3 counts
  pub read : message_in message ≡ fields
  -- the data that is shown is this, byte for byte
  pub shown : IfSome fields (λ m. data_of m message ≡ payload)

-- Wherever an entry did what it promises (`Stepped`), in any state whose numbers are of their types (`slots_fit`: all are that a list of calls
-- leaves), and the outcome is 'to the client, n bytes': what the first n bytes of the reply are read as
abbrev pub ReadBack : Type 0
ReadBack =
    (before after : State) (a : Arrival) (reply' : List ℕ) (C : FiveTuple) (n : ℕ)
    → StateFits before → Stepped before a.call a.datagram (ToClient C n) after a.reply reply'
    → ReadAs (fields_for before.bookkeeping.denied a.call a.datagram before.slots after.slots) (data_for a.call a.datagram) (take n reply')
