-- Request 3 said of a list of calls: what the cause means that a peer's datagram is dropped with, by what was counted alone.
use Rattle.std.specs.Prelude.{ℕ, ◌+◌, ◌≤◌, ◌≡◌, ◌≢◌, ◌⊎◌, ◌↔◌}
use mathlib.Core.List.{List, [], ◌∷◌, ◌++◌, Memᴰ}
use Rattle.address.specs.declared.Address.{Address}
use Rattle.address.specs.declared.Address.TheVariants.{V4}
use Rattle.address.specs.declared.FiveTuple.{FiveTuple}
use Rattle.rules.specs.declared.answer.Outcome.TheVariants.{DroppedLapsed, DroppedNever, DroppedOther}
use Rattle.history.specs.Counted.{Counted, allowed}
use Rattle.history.specs.Events.{Event, counted}
use Rattle.history.specs.Statement.{Had, HoldsPort, Comes}

-- each request of C for the address is 300 seconds old or older: it has ended at t
abbrev pub AllEnded : List Counted → FiveTuple → Address → ℕ → Type 0
AllEnded past C a t = (xs : List Address) (ends : ℕ) → Memᴰ (allowed C xs ends) past → Memᴰ a xs → ends ≤ t

-- after the last one had lapsed another address was accepted, and may have taken its entry
pub record Overtaken (C : FiveTuple) (a : Address) (since : List Counted) : Type 0 where
  -- a request for other addresses, accepted 300 seconds before it ends
  pub newer : List Counted
  pub older : List Counted
  pub addresses : List Address
  pub s : ℕ
  pub accepted : since ≡ newer ++ allowed C addresses (s + 300) ∷ older
  pub other : Address
  pub named : Memᴰ other addresses
  pub another : other ≢ a
  -- none for the address is as late as it, and each had ended when it was accepted
  pub last : (xs : List Address) (ends : ℕ) → Memᴰ (allowed C xs ends) (newer ++ allowed C addresses (s + 300) ∷ []) → Memᴰ a xs → ⊥
  pub lapsed : AllEnded older C a s

-- what each cause says of a peer's datagram that is not refused, where port R is that of C's live allocation
pub record Means (past : List Counted) (e : Event) (R x t : ℕ) (C : FiveTuple) (holder : HoldsPort past C R t) : Type 0 where
  -- 'since its latest accepted Allocate C had a CreatePermission or ChannelBind accepted for that address, and each of them is 300 seconds old or older'
  pub lapsed : e.outcome ≡ DroppedLapsed → Had C (V4 x) holder.since × AllEnded holder.since C (V4 x) t
  -- 'C had none for that address since then, or after the last one had lapsed another address was accepted'
  pub never : e.outcome ≡ DroppedNever → (Had C (V4 x) holder.since → ⊥) ⊎ Overtaken C (V4 x) holder.since

-- of every list of calls from a state on, where `past` was counted before; and other is said exactly where the port is nobody's
pub record CausesFrom (past : List Counted) (list : List Event) : Type 0 where
  pub means : (before : List Event) (e : Event) (R x t : ℕ) → Comes list before e R (V4 x) t → (C : FiveTuple) (holder : HoldsPort (counted past before) C R t)
      → Means (counted past before) e R x t C holder
  pub other : (before : List Event) (e : Event) (R x t : ℕ) → Comes list before e R (V4 x) t
      → (e.outcome ≡ DroppedOther) ↔ ((C : FiveTuple) → HoldsPort (counted past before) C R t → ⊥)
