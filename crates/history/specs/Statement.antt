-- Demand 3, in its words. The first half speaks of the table; the second, `GoesTo`, of what the list of calls counts as.
use Rattle.std.specs.Prelude.{ℕ, ◌+◌, ◌<◌, ◌≤◌, ◌≡◌, ◌≢◌, ◌⊎◌, ◌↔◌, get_or}
use mathlib.Core.List.{List, [], ◌∷◌, ◌++◌, Memᴰ}
use Rattle.address.specs.declared.Address.{Address}
use Rattle.address.specs.declared.Address.TheVariants.{V4}
use Rattle.address.specs.declared.FiveTuple.{FiveTuple}
use Rattle.address.specs.declared.TransactionId.{TransactionId}
use Rattle.slot.specs.declared.Slot.{Slot}
use Rattle.slot.specs.declared.Permission.{Permission}
use Rattle.slot.specs.declared.Channel.{Channel}
use Rattle.slot.specs.Slot.{fresh_permission, fresh_channel}
use Rattle.table.specs.Table.{slot_at}
use Rattle.rules.specs.declared.answer.Outcome.TheVariants.{Refused, ToClient}
use Rattle.rules.specs.Change.{Cause, dropped_for}
use Rattle.interface.specs.declared.incoming.Call.TheVariants.{Peer}
use Rattle.history.specs.Counted.{Counted, gave, kept, allowed}
use Rattle.state.specs.State.{State, empty, clock_of}
use Rattle.history.specs.Events.{Arrival, Event, Lived, counted}

-- ---- The table

abbrev pub permission_at : List Permission → ℕ → Permission
permission_at l j = get_or l j fresh_permission

abbrev pub channel_at : List Channel → ℕ → Channel
channel_at l j = get_or l j fresh_channel

-- live at t. What stands past the end of a list is fresh, and never live: so no statement needs a bound on a number
abbrev pub Live : ℕ → Slot → Type 0
Live t slot = t < slot.allocation.expiry

abbrev pub LiveChannel : ℕ → Channel → Type 0
LiveChannel t channel = (t < channel.expiry) × (0x4000 ≤ channel.number) × (channel.number ≤ 0x4fff)

-- 'no two live allocations share a 5-tuple or port, no two live permissions of one an address, no two live channels a number or peer'
pub record Apart (slots : List Slot) (t : ℕ) : Type 0 where
  pub five_tuples : (i j : ℕ) → Live t (slot_at slots i) → Live t (slot_at slots j)
      → (slot_at slots i).allocation.five_tuple ≡ (slot_at slots j).allocation.five_tuple → i ≡ j
  pub ports : (i j : ℕ) → Live t (slot_at slots i) → Live t (slot_at slots j) → (slot_at slots i).allocation.port ≡ (slot_at slots j).allocation.port → i ≡ j
  pub permissions : (k : ℕ) → Live t (slot_at slots k) → (i j : ℕ) → t < (permission_at (slot_at slots k).permissions i).expiry
      → t < (permission_at (slot_at slots k).permissions j).expiry
      → (permission_at (slot_at slots k).permissions i).address ≡ (permission_at (slot_at slots k).permissions j).address → i ≡ j
  pub numbers : (k : ℕ) → Live t (slot_at slots k) → (i j : ℕ) → LiveChannel t (channel_at (slot_at slots k).channels i)
      → LiveChannel t (channel_at (slot_at slots k).channels j)
      → (channel_at (slot_at slots k).channels i).number ≡ (channel_at (slot_at slots k).channels j).number → i ≡ j
  pub peers : (k : ℕ) → Live t (slot_at slots k) → (i j : ℕ) → LiveChannel t (channel_at (slot_at slots k).channels i)
      → LiveChannel t (channel_at (slot_at slots k).channels j)
      → (channel_at (slot_at slots k).channels i).peer ≡ (channel_at (slot_at slots k).channels j).peer → i ≡ j

-- ---- The history: what was counted, the newest first

-- a lifetime of n seconds, granted at s: 'not zero and not over at t'
pub record Lasts (t s n : ℕ) : Type 0 where
  pub not_zero : n ≢ 0
  pub not_over : t < s + n

-- no Refresh of C was accepted since its Allocate, and that one's lifetime lasts
pub record FromAllocate (C : FiveTuple) (t s n : ℕ) (since : List Counted) : Type 0 where
  pub none_since : (s n : ℕ) → Memᴰ (kept C s n) since → ⊥
  pub lasts : Lasts t s n

-- or the last accepted Refresh since then counts
pub record FromRefresh (C : FiveTuple) (t : ℕ) (since : List Counted) : Type 0 where
  pub newer : List Counted
  pub older : List Counted
  pub s : ℕ
  pub n : ℕ
  pub refresh : since ≡ newer ++ kept C s n ∷ older
  pub last : (s n : ℕ) → Memᴰ (kept C s n) newer → ⊥
  pub lasts : Lasts t s n

-- 'C had a CreatePermission or ChannelBind accepted for that peer's IP address ..
pub record Had (C : FiveTuple) (a : Address) (since : List Counted) : Type 0 where
  pub addresses : List Address
  pub ends : ℕ
  pub accepted : Memᴰ (allowed C addresses ends) since
  pub named : Memᴰ a addresses

-- .. at some s with t < s + 300'
pub record Permitted (C : FiveTuple) (a : Address) (t : ℕ) (since : List Counted) : Type 0 where
  pub request : Had C a since
  pub recent : t < request.ends

-- what was counted says that at time t port R is that of C's live allocation
pub record HoldsPort (past : List Counted) (C : FiveTuple) (R t : ℕ) : Type 0 where
  pub since : List Counted
  pub before : List Counted
  pub s : ℕ
  pub n : ℕ
  -- 'C's own latest accepted Allocate gave R and nobody has been given R after it'
  pub allocate : past ≡ since ++ gave C R s n ∷ before
  pub latest : (P s n : ℕ) → Memᴰ (gave C P s n) since → ⊥
  pub alone : (D : FiveTuple) (s n : ℕ) → Memᴰ (gave D R s n) since → ⊥
  -- 'the last lifetime granted to C, by that Allocate or an accepted Refresh after it, is not zero and not over at t'
  pub lifetime : FromAllocate C t s n since ⊎ FromRefresh C t since

-- what was counted says of a datagram from address a, at port R, at time t, that it goes to C
pub record GoesTo (past : List Counted) (C : FiveTuple) (R : ℕ) (a : Address) (t : ℕ) : Type 0 where
  pub holder : HoldsPort past C R t
  -- 'since that Allocate'
  pub permission : Permitted C a t holder.since

-- ---- The demand

-- a peer's datagram, from address a at any port, to port R, at time t
abbrev pub FromAddress : Arrival → ℕ → Address → ℕ → Type 0
FromAddress arrival R a t =
    (p : ℕ) × (id : TransactionId) × (arrival.call ≡ Peer (record { time = t; source = record { address = a; port = p }; port = R; id = id }))

-- one of the list that is not refused; `before` is 'the calls before that datagram'
pub record Comes (list before : List Event) (e : Event) (R : ℕ) (a : Address) (t : ℕ) : Type 0 where
  pub after : List Event
  pub split : list ≡ before ++ e ∷ after
  pub from : FromAddress e.arrival R a t
  pub not_refused : (number : ℕ) → e.outcome ≢ Refused number

-- 'To C: the client outcome with 5-tuple C'
abbrev pub To : FiveTuple → Event → Type 0
To C e = (n : ℕ) × (e.outcome ≡ ToClient C n)

-- 'dropped', for whatever cause
abbrev pub IsDropped : Event → Type 0
IsDropped e = (cause : Cause) × (e.outcome ≡ dropped_for cause)

-- 'one claim about the whole list': from a state on, where `past` was counted before
pub record Demand3From (first : State) (past : List Counted) (list : List Event) : Type 0 where
  -- 'Every moment: before the first call and after each, at the stored clock and any later time'
  pub apart : (before after : List Event) → list ≡ before ++ after → (st : State) → Lived first before st → (t : ℕ) → clock_of st ≤ t → Apart st.slots t
  -- 'a peer's datagram goes to client C exactly when the history of accepted requests says so'
  pub goes_to : (before : List Event) (e : Event) (R x t : ℕ) → Comes list before e R (V4 x) t → (C : FiveTuple) → To C e ↔ GoesTo (counted past before) C R (V4 x) t
  -- 'to nobody: dropped'
  pub to_nobody : (before : List Event) (e : Event) (R x t : ℕ) → Comes list before e R (V4 x) t
      → ((C : FiveTuple) → GoesTo (counted past before) C R (V4 x) t → ⊥) → IsDropped e

-- 'An empty relay is a fresh one.'
abbrev pub Demand3 : List Event → Type 0
Demand3 list = Demand3From empty [] list
