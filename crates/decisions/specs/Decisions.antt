-- What is decided of a call that is not refused: the slot that it is about, and what becomes of it.
use Rattle.std.specs.Prelude.{ℕ, zero, suc, ◌+◌, Bool, false, List, [], ◌∷◌}
use Rattle.slot.specs.declared.Slot.{Slot}
use Rattle.std.specs.Prelude.{Option, None}
use Rattle.slot.specs.Search.{find, has, at_or}
use Rattle.slot.specs.Slot.{fresh_slot, holds, holds_user, holds_port}
use Rattle.table.specs.Table.{in_slot, count, lapsed}
use Rattle.decisions.specs.declared.client.Asked.{Asked}
use Rattle.rules.specs.declared.requests.ClientCall.{ClientCall}
use Rattle.rules.specs.Change.{other_cause, dropped, Change, keep}
use Rattle.allocation_rules.specs.Allocations.{Room, allocate, refresh, port_for}
use Rattle.permission_rules.specs.Permissions.{create_permission, channel_bind}
use Rattle.permission_rules.specs.Denials.{any_denied, first_denied}
use Rattle.data_rules.specs.Data.{send, send_channel_data, relay_from_peer}
use Rattle.decisions.specs.Client.{asked_by}
use Rattle.interface.specs.declared.incoming.Call.{Call}
use Rattle.interface.specs.declared.incoming.Call.TheVariants.{Client, Peer}
use Rattle.interface.specs.declared.incoming.FromClient.{FromClient}

-- ---- What is asked of the whole table

-- of each of the 128 ports, from k on, whether a live slot holds it
unfoldable pub ports_held : ℕ → List Slot → ℕ → ℕ → List Bool
ports_held time slots k zero = []
ports_held time slots k (suc n) = has (find (in_slot (holds_port time (49152 + k))) slots) ∷ ports_held time slots (suc k) n

-- a client's call as the rules take it
abbrev pub as_rules : FromClient → ClientCall
as_rules call = record { time = call.time; user = call.user; relay = call.relay; five_tuple = call.five_tuple }

-- the live slot of the caller's 5-tuple, the lowest
abbrev pub own_place : FromClient → List Slot → Option ℕ
own_place call slots = find (in_slot (holds call.time call.five_tuple)) slots

-- the slot at that place, or a fresh one
abbrev pub slot_in : List Slot → Option ℕ → Slot
slot_in slots place = at_or fresh_slot place slots

-- what Allocate asks
abbrev pub room_for : FromClient → List Slot → Room
room_for call slots = record {
  own = has (own_place call slots);
  held = count (in_slot (holds_user call.time call.user)) slots;
  free = has (find (in_slot (lapsed call.time)) slots);
  port = port_for (ports_held call.time slots 0 128) call.start;
}

-- ---- What is asked of the denied prefixes

-- request 2: whether a request names a denied peer. No other datagram is looked at
abbrev pub asks_denied : (nodes s : List ℕ) → Asked → Bool
asks_denied nodes s Asked.Allocate = false
asks_denied nodes s Asked.Refresh = false
asks_denied nodes s Asked.CreatePermission = any_denied nodes s
asks_denied nodes s Asked.ChannelBind = first_denied nodes s
asks_denied nodes s Asked.Send = false
asks_denied nodes s Asked.ChannelData = false
asks_denied nodes s Asked.Nothing = false

abbrev pub names_denied : (nodes : List ℕ) → Call → List ℕ → Bool
names_denied nodes (Client call) s = asks_denied nodes s (asked_by s)
names_denied nodes (Peer call) s = false

-- ---- What is decided: the slot that a call is about, and what becomes of it

pub record Decision : Type 0 where
  pub place : Option ℕ
  pub change : Change

-- about the slot that was found: the rule is told whether there is one, and the slot, or a fresh one
abbrev pub about_found : List Slot → Option ℕ → (Bool → Slot → Change) → Decision
about_found slots found rule = record { place = found; change = rule (has found) (slot_in slots found) }

-- about the caller's own
abbrev pub about_own : FromClient → List Slot → (Bool → Slot → Change) → Decision
about_own call slots rule = about_found slots (own_place call slots) rule

-- Allocate writes 'the lowest such slot' that isn't live, and answers a repeat from the caller's own; everything else is about the caller's own
abbrev pub on_asked : (denied : Bool) → FromClient → List ℕ → List Slot → Asked → Decision
on_asked denied call s slots Asked.Allocate =
    record { place = find (in_slot (lapsed call.time)) slots; change = allocate (as_rules call) s (room_for call slots) (slot_in slots (own_place call slots)) }
on_asked denied call s slots Asked.Refresh = about_own call slots (refresh (as_rules call) s)
on_asked denied call s slots Asked.CreatePermission = about_own call slots (create_permission (as_rules call) s denied)
on_asked denied call s slots Asked.ChannelBind = about_own call slots (channel_bind (as_rules call) s denied)
on_asked denied call s slots Asked.Send = about_own call slots (λ own slot. keep (send (as_rules call) s own slot))
on_asked denied call s slots Asked.ChannelData = about_own call slots (λ own slot. keep (send_channel_data (as_rules call) s own slot))
on_asked denied call s slots Asked.Nothing = record { place = None; change = keep (dropped other_cause) }

-- a client's datagram by what it asks, and by whether it names a denied peer; a peer's is about the live slot with the relay port
unfoldable pub decided : (denied : Bool) → Call → List ℕ → List Slot → Decision
decided denied (Client call) s slots = on_asked denied call s slots (asked_by s)
decided denied (Peer call) s slots =
    about_found slots (find (in_slot (holds_port call.time call.port)) slots)
    (λ own slot. keep (relay_from_peer call.time call.source call.id s own slot))
