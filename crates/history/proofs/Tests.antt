-- What the tests of the rules say, and what the searches found.
use Prim.Native.Nat.{ℕ, zero, suc, ◌<◌, ◌≤◌, zero-le, suc-le-suc}
use mathlib.Core.Path.{◌≡◌, refl, sym, ◌∙◌}
use mathlib.Core.Logic.{◌≢◌, ◌⊎◌, inl, inr}
use mathlib.Core.Bool.{Bool, true, false, true≢false, false≢true}
use mathlib.Core.List.{List, [], ◌∷◌}
use native.Mathlib.Omega.{arith}
use lib.Dec.{ltb}
use lib.ListN.{length, get_or}
use borrow.Author.Tests.{ltb-true, ltb-false, leb-true, eqb-true, eqb-false, le-ltb, lt-ltb, le-leb, not-true}
use Rattle.choice.specs.Choice.{pick, both}
use Rattle.choice.proofs.Laws.{both_parts, both_true}
use Rattle.address.specs.declared.Address.{Address}
use Rattle.address.specs.declared.FiveTuple.{FiveTuple}
use Rattle.address.specs.declared.TransportAddress.{TransportAddress}
use Rattle.address.specs.Address.{same_address, same_transport_address, same_five_tuple}
use Rattle.address.proofs.Laws.{address_same, address_refl, transport_address_same, transport_address_refl, five_tuple_same, five_tuple_refl}
use Rattle.slot.specs.declared.Permission.{Permission}
use Rattle.slot.specs.declared.permissions.PermissionState.{PermissionState}
use Rattle.slot.specs.declared.Channel.{Channel}
use Rattle.slot.specs.declared.Slot.{Slot}
use Rattle.std.specs.Prelude.{Option, Some, None}
use Rattle.slot.specs.Search.{further, find, has, or_else, entry}
use Rattle.slot.specs.Slot.{live_allocation, fresh_permission, fresh_channel, fresh_slot, live_permission, free_permission, permits, entered, permission_state, is_channel_number, live_channel, numbered, leads_to, holds, holds_port}
use Rattle.table.specs.Table.{slot_at, in_slot, lapsed}
use Rattle.history.specs.Statement.{permission_at, channel_at, Live, LiveChannel}
use Rattle.history.proofs.Table.{HasPermission}

pub clash : {A : Type 0} (b : Bool) → b ≡ true → b ≡ false → A
clash b p q = absurd (true≢false (sym p ∙ q))

both_not : (a b : Bool) → both a b ≡ false → a ≡ true → b ≡ false
unfolding both
both_not true b e p = e
both_not false b e p = absurd (false≢true p)

-- ---- The lowest that passes
module _ {A : Type 0} where
  pub find_some : (p : A → Bool) (l : List A) (d : A) (i : ℕ) → find p l ≡ Some i → (p (get_or l i d) ≡ true) × (i < length l)
  unfolding find
  find_some p [] d i e = let z : ◌≡◌ {A = ℕ} 0 1 = cc in let y : ⊥ = omega arith in absurd y
  find_some p (x ∷ l) d i e = go (p x) refl (find p l) refl e (find_some p l d)
    where
      go : (b : Bool) → p x ≡ b → (o : Option ℕ) → find p l ≡ o → pick b (Some zero) (further o) ≡ Some i
          → ((j : ℕ) → find p l ≡ Some j → (p (get_or l j d) ≡ true) × (j < length l)) → (p (get_or (x ∷ l) i d) ≡ true) × (i < suc (length l))
      go true e o f q ih = let z : zero ≡ i = cc in rw (← z) (e, omega arith)
      go false e None f q ih = let z : ◌≡◌ {A = ℕ} 0 1 = cc in let y : ⊥ = omega arith in absurd y
      go false e (Some j) f q ih = let z : suc j ≡ i = cc in let r = ih j f in rw (← z) (r.0, suc-le-suc r.1)

  -- no entry passes, not even one past the end where the default does not pass
  pub find_none : (p : A → Bool) (l : List A) (d : A) → p d ≡ false → find p l ≡ None → (i : ℕ) → p (get_or l i d) ≡ false
  unfolding find
  find_none p [] d z e i = z
  find_none p (x ∷ l) d z e i = go (p x) refl (find p l) refl e i (find_none p l d z)
    where
      go : (b : Bool) → p x ≡ b → (o : Option ℕ) → find p l ≡ o → pick b (Some zero) (further o) ≡ None → (i : ℕ)
          → (find p l ≡ None → (j : ℕ) → p (get_or l j d) ≡ false) → p (get_or (x ∷ l) i d) ≡ false
      go true e o f q i ih = let z : ◌≡◌ {A = ℕ} 0 1 = cc in let y : ⊥ = omega arith in absurd y
      go false e (Some j) f q i ih = let z : ◌≡◌ {A = ℕ} 0 1 = cc in let y : ⊥ = omega arith in absurd y
      go false e None f q zero ih = e
      go false e None f q (suc i) ih = ih f i

  pub entry_is : (mine free : A → Bool) (l : List A) (j : ℕ) → entry mine free l ≡ Some j
      → (find mine l ≡ Some j) ⊎ ((find mine l ≡ None) × (find free l ≡ Some j))
  unfolding entry
  entry_is mine free l j e = go (find mine l) refl e
    where
      go : (o : Option ℕ) → find mine l ≡ o → or_else o (find free l) ≡ Some j → (find mine l ≡ Some j) ⊎ ((find mine l ≡ None) × (find free l ≡ Some j))
      go None q e = inr (q, e)
      go (Some i) q e = inl (q ∙ e)

pub has_not : (o : Option ℕ) → has o ≡ false → o ≡ None
has_not None e = refl
has_not (Some i) e = absurd (true≢false e)

pub has_at : (o : Option ℕ) → has o ≡ true → (i : ℕ) × (o ≡ Some i)
has_at None e = absurd (false≢true e)
has_at (Some i) e = (i, refl)

-- ---- Slots
module _ (t : ℕ) where
  dead : (b : Bool) → both (ltb t 0) b ≡ false
  unfolding both
  dead b = rw (le-ltb t 0 zero-le)

  pub own_is : (C : FiveTuple) (s : Slot) → in_slot (holds t C) s ≡ true → Live t s × (s.allocation.five_tuple ≡ C)
  unfolding holds live_allocation
  own_is C s e = let r = both_parts _ _ e in (ltb-true _ _ r.0, five_tuple_same _ _ r.1)

  -- the slot that was found for a 5-tuple is live and has it
  pub found_own : (C : FiveTuple) (l : List Slot) → has (find (in_slot (holds t C)) l) ≡ true
      → (k : ℕ) × (find (in_slot (holds t C)) l ≡ Some k) × Live t (slot_at l k) × ((slot_at l k).allocation.five_tuple ≡ C)
  found_own C l e =
      let f = has_at _ e in
      let o = own_is C (slot_at l f.0) (find_some (in_slot (holds t C)) l fresh_slot f.0 f.1).0 in
      (f.0, f.1, o.0, o.1)

  pub port_is : (R : ℕ) (s : Slot) → in_slot (holds_port t R) s ≡ true → Live t s × (s.allocation.port ≡ R)
  unfolding holds_port live_allocation
  port_is R s e = let r = both_parts _ _ e in (ltb-true _ _ r.0, eqb-true _ _ r.1)

  pub lapsed_is : (s : Slot) → in_slot (lapsed t) s ≡ true → s.allocation.expiry ≤ t
  unfolding live_allocation
  lapsed_is s e = ltb-false _ _ (not-true _ e)

  pub none_own : (C : FiveTuple) (l : List Slot) → find (in_slot (holds t C)) l ≡ None → (i : ℕ) → Live t (slot_at l i)
      → (slot_at l i).allocation.five_tuple ≢ C
  unfolding holds live_allocation fresh_slot
  none_own C l e i x q =
      clash (same_five_tuple (slot_at l i).allocation.five_tuple C) (rw (← q) (five_tuple_refl (slot_at l i).allocation.five_tuple))
      (both_not _ _ (find_none (in_slot (holds t C)) l fresh_slot (dead _) e i) (lt-ltb _ _ x))

  pub none_port : (R : ℕ) (l : List Slot) → find (in_slot (holds_port t R)) l ≡ None → (i : ℕ) → Live t (slot_at l i)
      → (slot_at l i).allocation.port ≢ R
  unfolding holds_port live_allocation fresh_slot
  none_port R l e i x = eqb-false _ _ (both_not _ _ (find_none (in_slot (holds_port t R)) l fresh_slot (dead _) e i) (lt-ltb _ _ x))

  -- ---- Permissions
  pub permission_is : (a : Address) (p : Permission) → permits t a p ≡ true → (t < p.expiry) × (p.address ≡ a)
  unfolding permits live_permission
  permission_is a p e = let r = both_parts _ _ e in (ltb-true _ _ r.0, address_same _ _ r.1)

  pub permission_free : (p : Permission) → free_permission t p ≡ true → p.expiry ≤ t
  unfolding free_permission live_permission
  permission_free p e = ltb-false _ _ (not-true _ e)

  pub none_permission : (a : Address) (l : List Permission) → find (permits t a) l ≡ None → (i : ℕ) → t < (permission_at l i).expiry
      → (permission_at l i).address ≢ a
  unfolding permits live_permission
  none_permission a l e i x q =
      clash (same_address (permission_at l i).address a) (rw (← q) (address_refl (permission_at l i).address))
      (both_not _ _ (find_none (permits t a) l fresh_permission (dead _) e i) (lt-ltb _ _ x))

  -- the permission test is HasPermission
  pub has_permission→ : (a : Address) (l : List Permission) → has (find (permits t a) l) ≡ true → HasPermission t a l
  has_permission→ a l e =
      let f = has_at _ e in
      let r = permission_is a _ (find_some (permits t a) l fresh_permission f.0 f.1).0 in
      record { at = f.0; same = r.1; live = r.0 }

  pub has_permission← : (a : Address) (l : List Permission) → has (find (permits t a) l) ≡ false → HasPermission t a l → ⊥
  has_permission← a l e p = none_permission a l (has_not _ e) p.at p.live p.same

  pub permission? : (a : Address) (l : List Permission) → HasPermission t a l ⊎ (HasPermission t a l → ⊥)
  permission? a l = go (has (find (permits t a) l)) refl
    where
      go : (b : Bool) → has (find (permits t a) l) ≡ b → HasPermission t a l ⊎ (HasPermission t a l → ⊥)
      go true e = inl (has_permission→ a l e)
      go false e = inr (has_permission← a l e)

  -- ---- Channels
  pub channel_is : (c : Channel) → live_channel t c ≡ true → LiveChannel t c
  unfolding live_channel is_channel_number
  channel_is c e = let r = both_parts _ _ e in let n = both_parts _ _ r.1 in (ltb-true _ _ r.0, leb-true _ _ n.0, leb-true _ _ n.1)

  pub channel_of : (c : Channel) → LiveChannel t c → live_channel t c ≡ true
  unfolding live_channel is_channel_number
  channel_of c x = both_true _ _ (lt-ltb _ _ x.0) (both_true _ _ (le-leb _ _ x.1) (le-leb _ _ x.2))

  pub numbered_is : (n : ℕ) (c : Channel) → numbered t n c ≡ true → LiveChannel t c × (c.number ≡ n)
  unfolding numbered
  numbered_is n c e = let r = both_parts _ _ e in (channel_is c r.0, eqb-true _ _ r.1)

  pub leads_is : (p : TransportAddress) (c : Channel) → leads_to t p c ≡ true → LiveChannel t c × (c.peer ≡ p)
  unfolding leads_to
  leads_is p c e = let r = both_parts _ _ e in (channel_is c r.0, transport_address_same _ _ r.1)

  fresh_channel_lem : live_channel t fresh_channel ≡ false
  unfolding live_channel
  fresh_channel_lem = dead _

  pub none-numbered : (n : ℕ) (l : List Channel) → find (numbered t n) l ≡ None → (i : ℕ) → LiveChannel t (channel_at l i) → (channel_at l i).number ≢ n
  unfolding numbered both
  none-numbered n l e i x = eqb-false _ _ (both_not _ _ (find_none (numbered t n) l fresh_channel (rw fresh_channel_lem) e i) (channel_of _ x))

  pub none_leads : (p : TransportAddress) (l : List Channel) → find (leads_to t p) l ≡ None → (i : ℕ) → LiveChannel t (channel_at l i) → (channel_at l i).peer ≢ p
  unfolding leads_to both
  none_leads p l e i x q =
      clash (same_transport_address (channel_at l i).peer p) (rw (← q) (transport_address_refl (channel_at l i).peer))
      (both_not _ _ (find_none (leads_to t p) l fresh_channel (rw fresh_channel_lem) e i) (channel_of _ x))

-- ---- The permission lookup. An entry with an expiry above 0 is one that was live at 0
abbrev pub Says : ℕ → Address → List Permission → PermissionState → Type 0
Says t a l PermissionState.Live = HasPermission t a l
Says t a l PermissionState.Lapsed = (HasPermission t a l → ⊥) × HasPermission 0 a l
Says t a l PermissionState.Never = (HasPermission t a l → ⊥) × (HasPermission 0 a l → ⊥)

pub lookup_says : (t : ℕ) (a : Address) (l : List Permission) → Says t a l (permission_state t a l)
unfolding permission_state entered permits live_permission
lookup_says t a l = go (has (find (permits t a) l)) (has (find (permits 0 a) l)) refl refl
  where
    go : (b c : Bool) → has (find (permits t a) l) ≡ b → has (find (permits 0 a) l) ≡ c → Says t a l (pick b PermissionState.Live (pick c PermissionState.Lapsed PermissionState.Never))
    go true c q r = has_permission→ t a l q
    go false true q r = (has_permission← t a l q, has_permission→ 0 a l r)
    go false false q r = (has_permission← t a l q, has_permission← 0 a l r)
