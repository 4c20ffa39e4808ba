-- Document 01's 'Data': Send, ChannelData and a peer's datagram. 'Data never extends an expiry': none of them changes a slot.
use Rattle.std.specs.Prelude.{ℕ, Bool, true, false, not, List, [], ◌∷◌, Option, Some, None}
use Rattle.choice.specs.Choice.{pick, any}
use Rattle.address.specs.declared.TransportAddress.{TransportAddress}
use Rattle.address.specs.declared.TransactionId.{TransactionId}
use Rattle.stun.specs.declared.message.Attribute.{Attribute}
use Rattle.stun.specs.declared.channel_data.ChannelMessage.{ChannelMessage}
use Rattle.stun.specs.AttributeNumbers as attribute
use Rattle.stun.specs.Message.{attributes, first_of, channel_data_of}
use Rattle.stun.specs.Values.{peer_or_nobody, first_peer}
use Rattle.messages.specs.Messages.{channel_data, data_indication}
use Rattle.slot.specs.declared.Slot.{Slot}
use Rattle.slot.specs.declared.permissions.PermissionState.{PermissionState}
use Rattle.slot.specs.declared.permissions.PermissionState.TheVariants.{Live, Lapsed, Never}
use Rattle.slot.specs.Search.{has, find, at_or}
use Rattle.slot.specs.Slot.{fresh_channel, permission_state, numbered, leads_to}
use Rattle.rules.specs.declared.requests.ClientCall.{ClientCall}
use Rattle.rules.specs.Change.{permission_lapsed, never_permitted, other_cause, Out, dropped, to_client, to_peer}
use Rattle.rules.specs.Values.{any_unknown, is_ipv6, ipv4_of, malformed_peer, ipv6_peer}

-- what the permissions say of the peer's IP address
unfoldable pub permission_of : ℕ → TransportAddress → Slot → PermissionState
permission_of time peer slot = permission_state time peer.address slot.permissions

-- whether one of these causes applies
abbrev pub any_cause : List Bool → Bool
any_cause causes = any (λ (cause : Bool). cause) causes

-- request 3: 'Send and peer drops for which the missing permission is the only cause carry that answer; other drops carry "other".' By whether one
-- of document 01's other causes applies, by what the permissions say, and by what goes out where nothing drops it
unfoldable pub unless_dropped : (another : Bool) → PermissionState → Out → Out
unless_dropped true permission out = dropped other_cause
unless_dropped false Live out = out
unless_dropped false Lapsed out = dropped permission_lapsed
unless_dropped false Never out = dropped never_permitted

-- 'DATA missing'
abbrev pub data_missing : Option Attribute → Bool
data_missing (Some value) = false
data_missing None = true

-- the causes of a Send beside the permission: 'unknown attribute, no live allocation, peer missing, malformed or IPv6, DATA missing'
unfoldable pub send_cause : List ℕ → Bool → Bool
send_cause s own =
    any_cause
    (any_unknown s
    ∷ not own
    ∷ malformed_peer (first_peer s)
    ∷ ipv6_peer (first_peer s)
    ∷ data_missing (first_of attribute.«data» (attributes s))
    ∷ [])

-- a Send's data, to its peer
abbrev pub sent_from : List ℕ → Slot → Option Attribute → Out
sent_from s slot (Some value) = to_peer slot.allocation.port (peer_or_nobody (first_peer s)) value.start value.len
sent_from s slot None = dropped other_cause

-- 'Send: unknown attribute, no live allocation, peer missing, malformed or IPv6, DATA missing, or no live permission for the peer's IP
-- address: dropped. User is not looked at.'
unfoldable pub send : ClientCall → List ℕ → Bool → Slot → Out
send call s own slot =
    unless_dropped (send_cause s own) (permission_of call.time (peer_or_nobody (first_peer s)) slot)
    (sent_from s slot (first_of attribute.«data» (attributes s)))

abbrev pub channelled_from : ClientCall → Slot → Bool → Option ChannelMessage → Out
channelled_from call slot own (Some message) =
    let found = find (numbered call.time message.number) slot.channels in
    pick (not own) (dropped other_cause)
    (pick (not (has found)) (dropped other_cause)
    (to_peer slot.allocation.port (at_or fresh_channel found slot.channels).peer message.start message.len))
channelled_from call slot own None = dropped other_cause

-- 'ChannelData: number, length, data; under 4 bytes, length over what follows, no live allocation, or channel not live: dropped;
-- permissions are not consulted; spare bytes are ignored.'
unfoldable pub send_channel_data : ClientCall → List ℕ → Bool → Slot → Out
send_channel_data call s own slot = channelled_from call slot own (channel_data_of s)

-- 'If the peer has a live channel, ChannelData without padding; else a Data indication 0x0017 with XOR-PEER-ADDRESS then DATA'
unfoldable pub relayed : ℕ → TransportAddress → TransactionId → List ℕ → Slot → List ℕ
relayed time source id s slot =
    let found = find (leads_to time source) slot.channels in
    pick (has found)
    (channel_data (at_or fresh_channel found slot.channels).number s)
    (data_indication id (ipv4_of source.address) source.port s)

-- the causes of a peer's datagram beside the permission: 'no live slot with the port, IPv6'
unfoldable pub peer_cause : TransportAddress → Bool → Bool
peer_cause source own = any_cause (not own ∷ is_ipv6 source.address ∷ [])

-- 'A peer's datagram: no live slot with the port, IPv6, or no live permission: dropped.'
unfoldable pub relay_from_peer : ℕ → TransportAddress → TransactionId → List ℕ → Bool → Slot → Out
relay_from_peer time source id s own slot =
    unless_dropped (peer_cause source own) (permission_of time source slot)
    (to_client slot.allocation.five_tuple (relayed time source id s slot))
