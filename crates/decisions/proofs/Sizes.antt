-- 'Nothing sent exceeds 1,536 bytes', of each rule, and a payload lies in the datagram. `relay` has both of the whole step.
use Prim.Native.Nat.{ℕ, ◌+◌, ◌≤◌}
use mathlib.Core.Path.{◌≡◌, refl}
use mathlib.Core.Bool.{Bool, true, false, ◌&&◌}
use mathlib.Core.List.{List}
use native.Mathlib.Omega.{arith}
use lib.Dec.{eqb, leb}
use lib.ListN.{length, length-take}
use borrow.Author.Tests.{leb-true}
use Rattle.std.proofs.Common.{Some, None}
use Rattle.wire.specs.Wire.{num}
use Rattle.choice.specs.Choice.{pick}
use Rattle.choice.proofs.Laws.{chosen}
use Rattle.address.specs.declared.FiveTuple.{FiveTuple}
use Rattle.address.specs.declared.TransportAddress.{TransportAddress}
use Rattle.address.specs.declared.TransactionId.{TransactionId}
use Rattle.stun.specs.declared.kinds.Method.{Method}
use Rattle.stun.specs.declared.kinds.Method.TheVariants.{CreatePermission, ChannelBind}
use Rattle.stun.specs.declared.channel_data.ChannelMessage.{ChannelMessage}
use Rattle.stun.specs.AttributeNumbers as attribute
use Rattle.stun.specs.Message.{unknown_types, channel_data_of}
use Rattle.stun.specs.Values.{transaction_id_of}
use Rattle.stun.proofs.Laws.{first_in}
use Rattle.messages.specs.Messages.{error_response, unknown_response}
use Rattle.messages.proofs.Laws.{allocate_small, refresh_small, bare_small, error_small, unknown_small, indication_small, channel_data_small}
use Rattle.slot.specs.declared.Slot.{Slot}
use Rattle.slot.specs.Search.{find, has}
use Rattle.slot.specs.Slot.{leads_to}
use Rattle.rules.specs.declared.requests.ClientCall.{ClientCall}
use Rattle.rules.specs.Change.{Out, dropped, to_client, to_peer, Change, keep, out_of, error_message, respond}
use Rattle.rules.specs.Values.{lifetime, ipv4_of}
use Rattle.allocation_rules.specs.Allocations.{Room, repeats, granted, told_again, newly_made, allocate, refresh}
use Rattle.permission_rules.specs.Permissions.{create_permission, channel_bind}
use Rattle.data_rules.specs.Data.{send, send_channel_data, relayed, relay_from_peer}
use Rattle.data_rules.proofs.Laws.{send_is, channelled_is, from_peer_is}

-- what goes out: a message of 1,536 bytes at most, or a payload in the datagram
abbrev pub Fits : List ℕ → Out → Type 0
Fits s (dropped cause) = Unit
Fits s (to_client fiveTuple message) = length message ≤ 1536
Fits s (to_peer port peer start len) = start + len ≤ length s

error_message_small : (method : Method) (s : List ℕ) (code : ℕ) → length (error_message method s code) ≤ 1536
unfolding error_message unknown_types
error_message_small method s code = go (eqb code 420)
  where
    go : (b : Bool) → length (pick b (unknown_response method (transaction_id_of s) (unknown_types s)) (error_response method (transaction_id_of s) code)) ≤ 1536
    go true = unknown_small (transaction_id_of s) method (unknown_types s) (rw length-take (omega arith))
    go false = error_small (transaction_id_of s) method code

respond_fits : (fiveTuple : FiveTuple) (method : Method) (s : List ℕ) (code : ℕ) (accepted : Change) → Fits s (out_of accepted)
    → Fits s (out_of (respond fiveTuple method s code accepted))
unfolding respond
respond_fits fiveTuple method s code accepted h = go (eqb code 0)
  where
    go : (b : Bool) → Fits s (out_of (pick b accepted (keep (to_client fiveTuple (error_message method s code)))))
    go true = h
    go false = error_message_small method s code

module _ (call : ClientCall) (s : List ℕ) where
  pub allocate_fits : (room : Room) (slot : Slot) → Fits s (out_of (allocate call s room slot))
  unfolding allocate
  allocate_fits room slot = respond_fits _ _ s _ _ (go (repeats call s room.own slot))
    where
      go : (again : Bool) → Fits s (out_of (pick again (told_again call s slot) (newly_made call s room.port (granted (lifetime s)))))
      go true = allocate_small (transaction_id_of s) _ _ _ _
      go false = allocate_small (transaction_id_of s) _ _ _ _

  pub refresh_fits : (own : Bool) (slot : Slot) → Fits s (out_of (refresh call s own slot))
  unfolding refresh
  refresh_fits own slot = respond_fits _ _ s _ _ (refresh_small (transaction_id_of s) _)

  pub create_permission_fits : (denied own : Bool) (slot : Slot) → Fits s (out_of (create_permission call s denied own slot))
  unfolding create_permission
  create_permission_fits denied own slot = respond_fits _ _ s _ _ (bare_small (transaction_id_of s) CreatePermission)

  pub channel_bind_fits : (denied own : Bool) (slot : Slot) → Fits s (out_of (channel_bind call s denied own slot))
  unfolding channel_bind
  channel_bind_fits denied own slot = respond_fits _ _ s _ _ (bare_small (transaction_id_of s) ChannelBind)

  -- the value of DATA lies in the message
  pub send_fits : (own : Bool) (slot : Slot) → Fits s (send call s own slot)
  send_fits own slot = send_is (Fits s) (λ cause. tt) call s own slot (λ value e live. first_in attribute.«data» s e)

  -- 'length over what follows ..: dropped'
  pub channelled_fits : (own : Bool) (slot : Slot) → Fits s (send_channel_data call s own slot)
  unfolding channel_data_of
  channelled_fits own slot = channelled_is (Fits s) (λ cause. tt) call s own slot (λ message e there. data_in message e)
    where
      data_in : (message : ChannelMessage) → channel_data_of s ≡ Some message → message.start + message.len ≤ length s
      data_in message e = go (leb 4 (length s)) (leb (4 + num s 2 2) (length s)) refl e
        where
          go : (a b : Bool) → leb (4 + num s 2 2) (length s) ≡ b → pick (a && b) (Some (record { number = num s 0 2; start = 4; len = num s 2 2 })) None ≡ Some message → message.start + message.len ≤ length s
          go true true q e =
              let is : ◌≡◌ {A = ChannelMessage} (record { number = num s 0 2; start = 4; len = num s 2 2 }) message = cc in
              rw (← is) (leb-true (4 + num s 2 2) (length s) q)
          go true false q e = let z : ◌≡◌ {A = ℕ} 0 1 = cc in absurd (omega arith)
          go false b q e = let z : ◌≡◌ {A = ℕ} 0 1 = cc in absurd (omega arith)

-- a peer's datagram is not over 1,500 bytes
pub from_peer_fits : (time : ℕ) (source : TransportAddress) (id : TransactionId) (s : List ℕ) (own : Bool) (slot : Slot) → length s ≤ 1500
    → Fits s (relay_from_peer time source id s own slot)
unfolding relayed
from_peer_fits time source id s own slot h = from_peer_is (Fits s) (λ cause. tt) time source id s own slot (λ live. message)
  where
    message : length (relayed time source id s slot) ≤ 1536
    message =
        chosen (λ (m : List ℕ). length m ≤ 1536) (has (find (leads_to time source) slot.channels)) (λ _. channel_data_small _ s h)
        (λ _. indication_small id (ipv4_of source.address) source.port s h)
