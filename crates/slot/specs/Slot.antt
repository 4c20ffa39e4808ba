-- Document 01's 'State', and what its 'Requests' and 'Data' ask of one slot, in its order and words.
use Rattle.std.specs.Prelude.{ℕ, ◌+◌, Bool, not, List, eqb, ltb, leb, replicate, Option}
use Rattle.choice.specs.Choice.{pick, both}
use Rattle.address.specs.declared.Address.{Address}
use Rattle.address.specs.declared.Address.TheVariants.{V4}
use Rattle.address.specs.declared.TransportAddress.{TransportAddress}
use Rattle.address.specs.declared.FiveTuple.{FiveTuple}
use Rattle.address.specs.declared.TransactionId.{TransactionId}
use Rattle.address.specs.Address.{same_address, same_transport_address, same_five_tuple}
use Rattle.slot.specs.declared.Permission.{Permission}
use Rattle.slot.specs.declared.permissions.PermissionState.{PermissionState}
use Rattle.slot.specs.declared.permissions.PermissionState.TheVariants.{Live, Lapsed, Never}
use Rattle.slot.specs.declared.Channel.{Channel}
use Rattle.slot.specs.declared.Allocation.{Allocation}
use Rattle.slot.specs.declared.Slot.{Slot}
use Rattle.slot.specs.Search.{has, find, entry, put_at, at_or}

-- 'A thing is live at time t when t < its expiry.'
abbrev pub live : ℕ → ℕ → Bool
live time expiry = ltb time expiry

unfoldable pub live_allocation : ℕ → Allocation → Bool
live_allocation time allocation = live time allocation.expiry

unfoldable pub live_permission : ℕ → Permission → Bool
live_permission time permission = live time permission.expiry

-- 'Fresh: clock and every number 0, every address IPv4 0.0.0.0.'
abbrev pub fresh_transport_address : TransportAddress
fresh_transport_address = record { address = V4 0; port = 0 }

abbrev pub fresh_allocation : Allocation
fresh_allocation =
    record { user = 0; five_tuple = record { client = fresh_transport_address; server = fresh_transport_address; protocol = 0 }; port = 0; expiry = 0 }

-- request 1: 'Keep the transaction id in the slot.'
abbrev pub fresh_transaction_id : TransactionId
fresh_transaction_id = record { high = 0; middle = 0; low = 0 }

abbrev pub fresh_permission : Permission
fresh_permission = record { address = V4 0; expiry = 0 }

abbrev pub fresh_channel : Channel
fresh_channel = record { number = 0; peer = fresh_transport_address; expiry = 0 }

-- 'with its eight permissions and eight channels beside them'
unfoldable pub fresh_slot : Slot
fresh_slot =
    record { allocation = fresh_allocation; transaction_id = fresh_transaction_id; permissions = replicate 8 fresh_permission; channels = replicate 8 fresh_channel }

-- the slot with another allocation, another transaction id, other permissions or other channels, and the rest of it as it was
abbrev pub with_allocation : Slot → Allocation → Slot
with_allocation slot allocation =
    record { allocation = allocation; transaction_id = slot.transaction_id; permissions = slot.permissions; channels = slot.channels }

abbrev pub with_transaction_id : Slot → TransactionId → Slot
with_transaction_id slot id = record { allocation = slot.allocation; transaction_id = id; permissions = slot.permissions; channels = slot.channels }

abbrev pub with_permissions : Slot → List Permission → Slot
with_permissions slot permissions =
    record { allocation = slot.allocation; transaction_id = slot.transaction_id; permissions = permissions; channels = slot.channels }

abbrev pub with_channels : Slot → List Channel → Slot
with_channels slot channels =
    record { allocation = slot.allocation; transaction_id = slot.transaction_id; permissions = slot.permissions; channels = channels }

-- 'a channel numbered outside 0x4000 to 0x4FFF is never live'
unfoldable pub is_channel_number : ℕ → Bool
is_channel_number number = both (leb 0x4000 number) (leb number 0x4fff)

unfoldable pub live_channel : ℕ → Channel → Bool
live_channel time channel = both (live time channel.expiry) (is_channel_number channel.number)

-- Allocate: 'live allocation for the 5-tuple'
unfoldable pub holds : ℕ → FiveTuple → Allocation → Bool
holds time fiveTuple allocation = both (live_allocation time allocation) (same_five_tuple allocation.five_tuple fiveTuple)

-- 'user holds 8 or more live allocations': whether this is one of them
unfoldable pub holds_user : ℕ → ℕ → Allocation → Bool
holds_user time user allocation = both (live_allocation time allocation) (eqb allocation.user user)

-- 'whose port no live slot holds', and a peer's datagram's 'no live slot with the port': whether this one holds it
unfoldable pub holds_port : ℕ → ℕ → Allocation → Bool
holds_port time port allocation = both (live_allocation time allocation) (eqb allocation.port port)

-- CreatePermission: 'a live permission for the IP address (ports ignored)', as in Send's 'no live permission for the peer's IP address'
unfoldable pub permits : ℕ → Address → Permission → Bool
permits time address permission = both (live_permission time permission) (same_address permission.address address)

-- request 3: 'an entry with that IP address and an expiry above 0'
unfoldable pub entered : Address → Permission → Bool
entered address permission = both (ltb 0 permission.expiry) (same_address permission.address address)

-- request 3: 'The permission lookup shall answer live, lapsed (none live, but an entry with that IP address and an expiry above 0) or else never.'
unfoldable pub permission_state : ℕ → Address → List Permission → PermissionState
permission_state time address permissions =
    pick (has (find (permits time address) permissions)) Live (pick (has (find (entered address) permissions)) Lapsed Never)

-- '.. or the lowest entry that isn't live takes it'
unfoldable pub free_permission : ℕ → Permission → Bool
free_permission time permission = not (live_permission time permission)

unfoldable pub permission_entry : ℕ → Address → List Permission → Option ℕ
permission_entry time address permissions = entry (permits time address) (free_permission time) permissions

-- the slot after an entry was taken; `ok` is false where there is no room, and the slot then is as it was
pub record Placed : Type 0 where
  pub ok : Bool
  pub slot : Slot

-- '.. is set to expire at now + 300'; 'if neither exists .. no entry changes'
unfoldable pub permit : ℕ → Address → Slot → Placed
permit time address slot =
    let found = permission_entry time address slot.permissions in
    record {
      ok = has found;
      slot = with_permissions slot (put_at found (record { address = address; expiry = time + 300 }) slot.permissions);
    }

-- ChannelBind: 'number live', as in ChannelData's 'channel not live'
unfoldable pub numbered : ℕ → ℕ → Channel → Bool
numbered time number channel = both (live_channel time channel) (eqb channel.number number)

-- 'peer live', as in 'If the peer has a live channel'. 'A peer here is address and port.'
unfoldable pub leads_to : ℕ → TransportAddress → Channel → Bool
leads_to time peer channel = both (live_channel time channel) (same_transport_address channel.peer peer)

-- 'number live for another peer'
unfoldable pub number_taken : ℕ → ℕ → TransportAddress → List Channel → Bool
number_taken time number peer channels =
    let found = find (numbered time number) channels in
    both (has found) (not (same_transport_address (at_or fresh_channel found channels).peer peer))

-- 'peer live on another number'
unfoldable pub peer_taken : ℕ → ℕ → TransportAddress → List Channel → Bool
peer_taken time number peer channels =
    let found = find (leads_to time peer) channels in
    both (has found) (not (eqb (at_or fresh_channel found channels).number number))

-- 'Both entries are chosen as a permission's is above'
unfoldable pub free_channel : ℕ → Channel → Bool
free_channel time channel = not (live_channel time channel)

unfoldable pub channel_entry : ℕ → ℕ → List Channel → Option ℕ
channel_entry time number channels = entry (numbered time number) (free_channel time) channels

-- 'the binding expires at now + 600'
unfoldable pub bind : ℕ → ℕ → TransportAddress → Slot → Placed
bind time number peer slot =
    let found = channel_entry time number slot.channels in
    record {
      ok = has found;
      slot = with_channels slot (put_at found (record { number = number; peer = peer; expiry = time + 600 }) slot.channels);
    }
