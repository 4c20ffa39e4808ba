-- The laws of the searches: that std's search is `find`, that an entry's place lies in the list, and a place past the end; of the entries that are
-- taken; and of the permission lookup.
use Prim.Native.Nat.{ℕ, zero, ◌+◌, ◌<◌, ◌≤◌}
use mathlib.Core.Path.{◌≡◌, refl, sym, ap, ◌∙◌}
use mathlib.Core.Bool.{Bool, true, false}
use mathlib.Core.List.{List, [], ◌∷◌}
use Rattle.std.specs.Prelude.{Option, Some, None, cond}
use Rattle.std.specs.List.{position, position_from}
use Rattle.std.specs.Fn.{Called}
use Rattle.std.specs.Iterator.{FindsPosition}
use Rattle.std.proofs.lemmas.Iterator.{YieldsList}
use Rattle.std.proofs.lemmas.List.Quantifiers.{position-Some}
use Rattle.std.proofs.lemmas.Iterator.Adapters.{position_from-zero}
use Rattle.std.proofs.lemmas.Iterator.Search.{position_from_yields_List}
use denote.Param.Members.{Mut}
use Rattle.choice.specs.Choice.{pick}
use native.Mathlib.Omega.{arith}
use lib.ListN.{length, set, get_or-eq_default}
use Rattle.address.specs.declared.Address.{Address}
use Rattle.address.specs.declared.TransportAddress.{TransportAddress}
use Rattle.slot.specs.declared.Permission.{Permission}
use Rattle.slot.specs.declared.permissions.PermissionState.TheVariants.{Live, Lapsed, Never}
use Rattle.std.specs.Option.{is_some, option_or}
use Rattle.slot.specs.Search.{further, find, has, or_else, entry, put_at, at_or}
use Rattle.slot.specs.declared.Slot.{Slot}
use Rattle.slot.specs.Slot.{with_permissions, with_channels, live_permission, permits, entered, permission_state, permission_entry, Placed, permit, channel_entry, bind}
use Rattle.slot.specs.Inner.{made}

-- ---- std's search is `find`
shifted : ℕ → Option ℕ → Option ℕ
shifted i (Some k) = Some (k + i)
shifted i None = None

shifted-zero : (o : Option ℕ) → shifted 0 o ≡ o
unfolding shifted
shifted-zero (Some k) = ap Some (omega arith)
shifted-zero None = refl

shifted_further : (i : ℕ) (o : Option ℕ) → shifted (i + 1) o ≡ shifted i (further o)
unfolding shifted
shifted_further i (Some k) = ap Some (omega arith)
shifted_further i None = refl

module _ {A : Type 0} (p : A → Bool) where
  found_from : (i : ℕ) (l : List A) → position_from p i l ≡ shifted i (find p l)
  unfolding find shifted
  found_from i [] = refl
  found_from i (x ∷ l) = go (p x) (found_from (i + 1) l ∙ shifted_further i (find p l))
    where
      go : (b : Bool) → position_from p (i + 1) l ≡ shifted i (further (find p l)) → cond b (Some i) (position_from p (i + 1) l) ≡ shifted i (pick b (Some zero) (further (find p l)))
      go true rest = ap Some (omega arith)
      go false rest = rest

  pub position_is : (l : List A) → position p l ≡ find p l
  position_is l = position_from-zero p l ∙ found_from 0 l ∙ shifted-zero (find p l)

-- what `position` finds over a chain of `all`, where the closure computes a test
pub found_by : {S A B F : Type 0} {steps : S → Option A → S → Type 0} {v : A → B} {g : Mut F (A × Unit {0}) Bool} {s : S} {f : F} {all : List B} {r : Option ℕ}
    (test : B → Bool) (u : S) → FindsPosition steps g s f r u → YieldsList steps v s all
    → ((x : A) (b : Bool) (q : F) → Called g f (x, tt) b q → (q ≡ f) × (b ≡ test (v x))) → r ≡ find test all
found_by {all = all} test u ran chain told = position_from_yields_List test u _ _ ran chain told ∙ position_is test all

-- ---- what is asked of a place
pub has_is : (o : Option ℕ) → is_some o ≡ has o
has_is (Some i) = refl
has_is None = refl

pub or_is : (first second : Option ℕ) → option_or first second ≡ or_else first second
or_is (Some i) second = refl
or_is None second = refl

-- ---- the place of an entry lies in the list
module _ {A : Type 0} where
  find_within : (p : A → Bool) (l : List A) (d : A) (i : ℕ) → find p l ≡ Some i → i < length l
  find_within p l d i e = (position-Some p l i d (position_is p l ∙ e)).0

  pub entry_within : (mine free : A → Bool) (l : List A) (d : A) (i : ℕ) → entry mine free l ≡ Some i → i < length l
  unfolding entry
  entry_within mine free l d i e = go (find mine l) refl e
    where
      go : (o : Option ℕ) → find mine l ≡ o → or_else o (find free l) ≡ Some i → i < length l
      go (Some j) q e = find_within mine l d i (q ∙ e)
      go None q e = find_within free l d i e

module _ {A : Type 0} where
  -- past the end there is nothing to read but the default
  pub at_past : (d : A) (l : List A) {o : Option ℕ} {i : ℕ} → o ≡ Some i → length l ≤ i → d ≡ at_or d o l
  unfolding at_or
  at_past d l {o} {i} e h = rw e (sym (get_or-eq_default l d {n = i} h))

-- ---- What there is room for
slot_or : Slot → Option Slot → Slot
slot_or d (Some slot) = slot
slot_or d None = d

pub room_is : (p : Placed) → is_some (made p) ≡ p.ok
room_is p = go p.ok
  where
    go : (b : Bool) → is_some (pick b (Some p.slot) None) ≡ b
    go true = refl
    go false = refl

pub no-room : (p : Placed) → made p ≡ None → p.ok ≡ false
no-room p e = go p.ok e
  where
    go : (b : Bool) → pick b (Some p.slot) None ≡ None → b ≡ false
    go true f = let z : ◌≡◌ {A = ℕ} 0 1 = cc in let y : ⊥ = omega arith in absurd y
    go false f = refl

pub with-room : (p : Placed) {slot : Slot} → made p ≡ Some slot → (p.ok ≡ true) × (p.slot ≡ slot)
unfolding slot_or
with-room p {slot} e = go p.ok e
  where
    go : (b : Bool) → pick b (Some p.slot) None ≡ Some slot → (b ≡ true) × (p.slot ≡ slot)
    go true f = (refl, ap (slot_or p.slot) f)
    go false f = let z : ◌≡◌ {A = ℕ} 0 1 = cc in let y : ⊥ = omega arith in absurd y

-- ---- What takes an entry: the slot where there is room, and none where there is not
module _ (time : ℕ) (address : Address) (slot : Slot) where
  pub permit-none : permission_entry time address slot.permissions ≡ None → made (permit time address slot) ≡ None
  unfolding permit
  permit-none e = rw e

  pub permit-some : {i : ℕ} → permission_entry time address slot.permissions ≡ Some i
      → made (permit time address slot) ≡ Some (with_permissions slot (set slot.permissions i (record { address = address; expiry = time + 300 })))
  unfolding permit put_at
  permit-some e = rw e

module _ (time number : ℕ) (peer : TransportAddress) (slot : Slot) where
  pub bind-none : channel_entry time number slot.channels ≡ None → made (bind time number peer slot) ≡ None
  unfolding bind
  bind-none e = rw e

  pub bind-some : {i : ℕ} → channel_entry time number slot.channels ≡ Some i
      → made (bind time number peer slot) ≡ Some (with_channels slot (set slot.channels i (record { number = number; peer = peer; expiry = time + 600 })))
  unfolding bind put_at
  bind-some e = rw e

-- ---- The permission lookup. An entry with an expiry above 0 is one that is live at 0
module _ (time : ℕ) (address : Address) (permissions : List Permission) where
  pub state-live : has (find (permits time address) permissions) ≡ true → permission_state time address permissions ≡ Live
  unfolding permission_state
  state-live e = rw e

  pub state-lapsed : has (find (permits time address) permissions) ≡ false → has (find (permits 0 address) permissions) ≡ true
      → permission_state time address permissions ≡ Lapsed
  unfolding permission_state entered permits live_permission
  state-lapsed e f = rw (e, f)

  pub state_never : has (find (permits time address) permissions) ≡ false → has (find (permits 0 address) permissions) ≡ false
      → permission_state time address permissions ≡ Never
  unfolding permission_state entered permits live_permission
  state_never e f = rw (e, f)
