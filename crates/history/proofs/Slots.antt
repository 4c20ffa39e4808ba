-- What every call keeps of each slot: a slot that is written has it, and the others had it before.
use Prim.Native.Nat.{ℕ, zero, suc, ◌+◌}
use mathlib.Core.Path.{◌≡◌, refl}
use mathlib.Core.List.{List, [], ◌∷◌}
use lib.Dec.{eqb}
use lib.ListN.{length, get_or, set}
use Rattle.std.proofs.Common.{Option}
use Rattle.choice.proofs.Laws.{chosen}
use Rattle.stun.specs.Values.{peer_or_nobody}
use Rattle.slot.specs.declared.Slot.{Slot}
use Rattle.std.specs.Prelude.{Option, Some, None}
use Rattle.slot.specs.Search.{put_at, at_or}
use Rattle.slot.specs.Slot.{fresh_slot, permit, Placed}
use Rattle.address.specs.declared.TransportAddress.{TransportAddress}
use Rattle.table.specs.Table.{slot_at}
use Rattle.rules.specs.Change.{Out, Change, keep, write}
use Rattle.allocation_rules.specs.Allocations.{renewed, refreshed}
use Rattle.permission_rules.specs.Permissions.{permit_peer, permit_all}
use Rattle.interface.specs.Refusals.{time_of}
use Rattle.state.specs.State.{State, clock_of, at_time}
use Rattle.state.specs.Outcomes.{Act, state_after}
use Rattle.state.specs.Step.{done, decision, accepted}
use Rattle.state.proofs.Laws.{acted}
use Rattle.relay.proofs.Laws.{Accepted, not_refused}
use Rattle.history.specs.Events.{Arrival, met, next}

-- ---- An entry written into a list
module _ {A : Type 0} (P : A → Type 0) (d x : A) (h : P x) where
  pub set_keeps : (l : List A) (k : ℕ) → ((i : ℕ) → P (get_or l i d)) → (i : ℕ) → P (get_or (set l k x) i d)
  set_keeps [] k f i = f i
  set_keeps (y ∷ l) zero f zero = h
  set_keeps (y ∷ l) zero f (suc i) = f (suc i)
  set_keeps (y ∷ l) (suc k) f zero = f zero
  set_keeps (y ∷ l) (suc k) f (suc i) = set_keeps l k (λ j. f (suc j)) i

  pub place_keeps : (found : Option ℕ) (l : List A) → ((i : ℕ) → P (get_or l i d)) → (i : ℕ) → P (get_or (put_at found x l) i d)
  unfolding put_at
  place_keeps (Some k) l f = set_keeps l k f
  place_keeps None l f = f

module _ (P : Slot → Type 0) where
  -- ---- What is found, and what a request makes of it
  pub found_keeps : P fresh_slot → (found : Option ℕ) (l : List Slot) → ((i : ℕ) → P (slot_at l i)) → P (at_or fresh_slot found l)
  unfolding at_or
  found_keeps fresh (Some k) l f = f k
  found_keeps fresh None l f = fresh

  module _ (t : ℕ) where
    -- each of these addresses may be permitted
    abbrev pub MayPermit : List (Option TransportAddress) → Type 0
    MayPermit [] = Unit
    MayPermit (v ∷ l) = ((slot : Slot) → P slot → P (permit t (peer_or_nobody v).address slot).slot) × MayPermit l

    pub permits_keep : (l : List (Option TransportAddress)) (was slot : Slot) → MayPermit l → P was → P slot → P (permit_all t l was slot).slot
    unfolding permit_all permit_peer
    permits_keep [] was slot a w f = f
    permits_keep (v ∷ l) was slot a w f =
        let one = permit t (peer_or_nobody v).address slot in
        chosen (λ (x : Placed). P x.slot) one.ok (λ _. permits_keep l was one.slot a.1 w (a.0 slot f)) (λ _. w)

    pub refreshed_keeps : (seconds : ℕ) (slot : Slot) → P fresh_slot → P (renewed (t + seconds) slot) → P (refreshed t seconds slot)
    unfolding refreshed
    refreshed_keeps seconds slot fresh f = chosen P (eqb seconds 0) (λ _. fresh) (λ _. f)

  -- ---- One call
  abbrev pub Writes : Change → Type 0
  Writes change = (slot : Slot) (out : Out) → change ≡ write slot out → P slot

  done_keeps : (was st : State) (found : Option ℕ) (change : Change) → ((i : ℕ) → P (slot_at st.slots i)) → Writes change
      → (i : ℕ) → P (slot_at (state_after was (done st found change)).slots i)
  done_keeps was st (Some k) (keep out) f w = f
  done_keeps was st (Some k) (write slot out) f w = set_keeps P fresh_slot slot (w slot out refl) st.slots k f
  done_keeps was st None change f w = f

  -- a call that is not refused writes such a slot, or none
  pub next_keeps : (st : State) (a : Arrival) → ((i : ℕ) → P (slot_at st.slots i))
      → (Accepted (clock_of st) a.call st.slots a.datagram a.reply → Writes (decision (met st a) a.call a.datagram).change)
      → (i : ℕ) → P (slot_at (next st a).slots i)
  unfolding accepted
  next_keeps st a f w =
      acted (λ (x : Act). (i : ℕ) → P (slot_at (state_after (met st a) x).slots i)) (met st a) a.call a.datagram (length a.reply) (λ number. f)
      (λ e. done_keeps (met st a) (at_time (time_of a.call) (met st a)) (decision (met st a) a.call a.datagram).place (decision (met st a) a.call a.datagram).change f
      (w (not_refused (clock_of st) st.slots a.datagram a.reply a.call e)))
