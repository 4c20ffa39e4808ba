-- Laws of the loops over a request's peer addresses.
use Prim.Native.Nat.{ℕ, ◌<◌}
use mathlib.Core.Path.{◌≡◌, refl, ap, ◌∙◌}
use mathlib.Core.Bool.{Bool, true, false, not, ◌||◌}
use mathlib.Core.List.{List, [], ◌∷◌}
use Rattle.std.specs.Prelude.{Option, Some, None}
use Rattle.std.specs.Option.{ok_or, unwrap_or}
use Rattle.std.specs.Prelude.{IfOk}
use Rattle.std.specs.List.{list_any}
use Rattle.choice.specs.Choice.{pick, any}
use Rattle.choice.proofs.Laws.{chosen}
use Rattle.address.specs.declared.TransportAddress.{TransportAddress}
use Rattle.stun.specs.declared.values.NumberValue.{NumberValue}
use Rattle.stun.specs.declared.values.NumberValue.TheVariants.{Number, WrongLength, Absent}
use Rattle.stun.specs.Inner.{Below}
use Rattle.slot.specs.declared.Slot.{Slot}
use Rattle.slot.specs.Slot.{Placed, permit, bind}
use Rattle.slot.specs.Inner.{made}
use Rattle.slot.proofs.Laws.{no-room, with-room}
use Rattle.rules.specs.Change.{check}
use Rattle.rules.specs.Codes.{code_of}
use Rattle.rules.specs.declared.codes.ErrorCode.TheVariants.{InsufficientCapacity}
use Rattle.rules.specs.Values.{number_given}
use Rattle.permission_rules.specs.Permissions.{permit_peer, permit_all, bound}
use Rattle.permission_rules.specs.Inner.{bound_where_room}

-- ---- A number below a bound
pub number_below : {bound : ℕ} (v : NumberValue) → 0 < bound → Below bound v → number_given v < bound
number_below (Number n) p h = h
number_below WrongLength p h = p
number_below Absent p h = p

-- ---- A question over the peer addresses
pub any_listed : {X : Type 0} (test : X → Bool) (l : List X) → list_any test l ≡ any test l
unfolding any
any_listed test [] = refl
any_listed test (x ∷ rest) = go (test x) (any_listed test rest)
  where
    go : (b : Bool) → list_any test rest ≡ any test rest → b || list_any test rest ≡ pick b true (any test rest)
    go true e = refl
    go false e = e

-- ---- The permissions of CreatePermission: what is left, from the slot made so far, is the whole
module _ (time : ℕ) {left rest : List (Option TransportAddress)} {v : Option TransportAddress} (e : left ≡ v ∷ rest) (was done : Slot) where
  pub permit_full : made (permit_peer time v done) ≡ None → made (permit_all time left was done) ≡ None
  unfolding permit_all
  permit_full n = ap (λ (l : List (Option TransportAddress)). made (permit_all time l was done)) e ∙ rw (no-room (permit_peer time v done) n)

  pub permit_on : {next : Slot} → made (permit_peer time v done) ≡ Some next → made (permit_all time left was done) ≡ made (permit_all time rest was next)
  unfolding permit_all
  permit_on y =
      let r = with-room (permit_peer time v done) y in
      ap (λ (l : List (Option TransportAddress)). made (permit_all time l was done)) e ∙ rw (r.0, r.1)

pub permit_end : (time : ℕ) {left : List (Option TransportAddress)} → left ≡ [] → (was done : Slot) → made (permit_all time left was done) ≡ Some done
unfolding permit_all
permit_end time e was done = rw e

-- where there is no room for some address, the slot is as it was
pub permitted_or : (time : ℕ) (l : List (Option TransportAddress)) (was done : Slot) → unwrap_or (made (permit_all time l was done)) was ≡ (permit_all time l was done).slot
unfolding permit_all
permitted_or time [] was done = refl
permitted_or time (v ∷ l) was done =
    chosen (λ (p : Placed). unwrap_or (made p) was ≡ p.slot) (permit_peer time v done).ok (λ _. permitted_or time l was (permit_peer time v done).slot) (λ _. refl)

-- the code where there is no room, and the slot where there is
pub room_code : (p : Placed) → code_of (ok_or (made p) InsufficientCapacity) ≡ check (not p.ok) 508 0
unfolding check
room_code p = chosen (λ (r : Option Slot). code_of (ok_or r InsufficientCapacity) ≡ check (not p.ok) 508 0) p.ok (λ e. rw e) (λ e. rw e)

pub room_slot : (p : Placed) → IfOk (ok_or (made p) InsufficientCapacity) (λ slot. slot ≡ p.slot)
room_slot p = chosen (λ (r : Option Slot). IfOk (ok_or r InsufficientCapacity) (λ slot. slot ≡ p.slot)) p.ok (λ _. refl) (λ _. tt)

-- ---- The permission and the channel of ChannelBind
module _ (time number : ℕ) (peer : TransportAddress) (slot : Slot) where
  pub bound-none : made (permit time peer.address slot) ≡ None → bound_where_room time number peer slot ≡ None
  unfolding bound_where_room
  bound-none e = rw (no-room (permit time peer.address slot) e)

  pub bound-some : {permitted : Slot} → made (permit time peer.address slot) ≡ Some permitted
      → bound_where_room time number peer slot ≡ made (bind time number peer permitted)
  unfolding bound_where_room
  bound-some e = let r = with-room (permit time peer.address slot) e in rw (r.0, r.1)

  pub bound_code : code_of (ok_or (bound_where_room time number peer slot) InsufficientCapacity)
      ≡ check (not (permit time peer.address slot).ok) 508 (check (not (bind time number peer (permit time peer.address slot).slot).ok) 508 0)
  unfolding bound_where_room check
  bound_code = go (permit time peer.address slot).ok (bind time number peer (permit time peer.address slot).slot)
    where
      go : (b : Bool) (p : Placed) → code_of (ok_or (pick b (made p) None) InsufficientCapacity) ≡ check (not b) 508 (check (not p.ok) 508 0)
      go true p = room_code p
      go false p = refl

  pub bound_slot : IfOk (ok_or (bound_where_room time number peer slot) InsufficientCapacity) (λ made. made ≡ bound time number peer slot)
  unfolding bound_where_room bound
  bound_slot = go (permit time peer.address slot).ok (bind time number peer (permit time peer.address slot).slot)
    where
      go : (b : Bool) (p : Placed) → IfOk (ok_or (pick b (made p) None) InsufficientCapacity) (λ slot. slot ≡ p.slot)
      go true p = room_slot p
      go false p = tt
