-- What holds of every drop and of what goes out holds of what the rules of data give; so Send and ChannelData leave the reply as it was.
use Prim.Native.Nat.{ℕ}
use mathlib.Core.Path.{◌≡◌, refl}
use mathlib.Core.Bool.{Bool, true, false, not}
use mathlib.Core.List.{List}
use borrow.Author.Tests.{not-false}
use Rattle.std.proofs.Common.{Option, Some, None}
use Rattle.choice.proofs.Laws.{chosen}
use Rattle.address.specs.declared.TransportAddress.{TransportAddress}
use Rattle.address.specs.declared.TransactionId.{TransactionId}
use Rattle.stun.specs.AttributeNumbers as attribute
use Rattle.stun.specs.declared.message.Attribute.{Attribute}
use Rattle.stun.specs.declared.channel_data.ChannelMessage.{ChannelMessage}
use Rattle.stun.specs.Message.{attributes, first_of, channel_data_of}
use Rattle.stun.specs.Values.{peer_or_nobody, first_peer}
use Rattle.slot.specs.declared.Slot.{Slot}
use Rattle.slot.specs.declared.permissions.PermissionState.{PermissionState}
use Rattle.slot.specs.declared.permissions.PermissionState.TheVariants.{Live, Lapsed, Never}
use Rattle.slot.specs.Search.{find, has, at_or}
use Rattle.slot.specs.Slot.{fresh_channel, numbered}
use Rattle.rules.specs.declared.requests.ClientCall.{ClientCall}
use Rattle.rules.specs.Change.{Cause, permission_lapsed, never_permitted, other_cause, Out, dropped, to_client, to_peer, reply_after}
use Rattle.data_rules.specs.Data.{permission_of, unless_dropped, send_cause, sent_from, send, channelled_from, send_channel_data, relayed, peer_cause, relay_from_peer}

-- ---- What is dropped, or goes out by a live permission
module _ (P : Out → Type 0) (drops : (cause : Cause) → P (dropped cause)) where
  unless_dropped_lem : (another : Bool) (permission : PermissionState) {out : Out} → (permission ≡ Live → P out)
      → P (unless_dropped another permission out)
  unfolding unless_dropped
  unless_dropped_lem true permission sent = drops other_cause
  unless_dropped_lem false Live sent = sent refl
  unless_dropped_lem false Lapsed sent = drops permission_lapsed
  unless_dropped_lem false Never sent = drops never_permitted

  module _ (call : ClientCall) (s : List ℕ) (own : Bool) (slot : Slot) where
    pub send_is : ((value : Attribute) → first_of attribute.«data» (attributes s) ≡ Some value
        → permission_of call.time (peer_or_nobody (first_peer s)) slot ≡ Live
        → P (to_peer slot.allocation.port (peer_or_nobody (first_peer s)) value.start value.len))
        → P (send call s own slot)
    unfolding send
    send_is sent = unless_dropped_lem (send_cause s own) (permission_of call.time (peer_or_nobody (first_peer s)) slot) (go (first_of attribute.«data» (attributes s)) refl)
      where
        go : (place : Option Attribute) → first_of attribute.«data» (attributes s) ≡ place → permission_of call.time (peer_or_nobody (first_peer s)) slot ≡ Live
            → P (sent_from s slot place)
        go (Some value) e live = sent value e live
        go None e live = drops other_cause

    pub channelled_is : ((message : ChannelMessage) → channel_data_of s ≡ Some message → has (find (numbered call.time message.number) slot.channels) ≡ true
        → P (to_peer slot.allocation.port (at_or fresh_channel (find (numbered call.time message.number) slot.channels) slot.channels).peer message.start message.len))
        → P (send_channel_data call s own slot)
    unfolding send_channel_data
    channelled_is sent = go (channel_data_of s) refl
      where
        go : (read : Option ChannelMessage) → channel_data_of s ≡ read → P (channelled_from call slot own read)
        go (Some message) e =
            let there = has (find (numbered call.time message.number) slot.channels) in
            chosen P (not own) (λ _. drops other_cause) (λ _. chosen P (not there) (λ _. drops other_cause) (λ n. sent message e (not-false there n)))
        go None e = drops other_cause

  pub from_peer_is : (time : ℕ) (source : TransportAddress) (id : TransactionId) (s : List ℕ) (own : Bool) (slot : Slot)
      → (permission_of time source slot ≡ Live → P (to_client slot.allocation.five_tuple (relayed time source id s slot)))
      → P (relay_from_peer time source id s own slot)
  unfolding relay_from_peer
  from_peer_is time source id s own slot = unless_dropped_lem (peer_cause source own) (permission_of time source slot)

-- ---- Send and ChannelData write no reply
module _ (call : ClientCall) (s : List ℕ) (own : Bool) (slot : Slot) (reply : List ℕ) where
  pub send_quiet : reply_after reply (send call s own slot) ≡ reply
  send_quiet = send_is (λ out. reply_after reply out ≡ reply) (λ cause. refl) call s own slot (λ value e live. refl)

  pub channelled_quiet : reply_after reply (send_channel_data call s own slot) ≡ reply
  channelled_quiet = channelled_is (λ out. reply_after reply out ≡ reply) (λ cause. refl) call s own slot (λ message e there. refl)
