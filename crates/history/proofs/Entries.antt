-- What an accepted permission or channel does to the entries of a slot.
use Prim.Native.Nat.{ℕ, ◌+◌, ◌<◌, ◌≤◌, zero-le}
use mathlib.Core.Path.{◌≡◌, refl, sym, ◌∙◌}
use mathlib.Core.Logic.{◌≢◌, ◌⊎◌, inl, inr}
use mathlib.Core.Bool.{Bool, true, false, not, false≢true}
use mathlib.Core.List.Memᴰ
use mathlib.Core.List.{List, [], ◌∷◌, Memᴰ}
use native.Mathlib.Omega.{arith}
use native.Mathlib.Nat.{le_refl, not-suc-le-zero}
use lib.Dec.{eqb}
use lib.ListN.{length, set, replicate}
use lib.Seq.{get_or-set_same, get_or-set_other}
use borrow.Author.Tests.{eqb-true, not-false}
use Rattle.std.proofs.Common.{Option}
use Rattle.wire.proofs.Laws.{all_same}
use Rattle.choice.specs.Choice.{pick, both}
use Rattle.address.specs.declared.Address.{Address}
use Rattle.address.specs.declared.TransportAddress.{TransportAddress}
use Rattle.stun.specs.Values.{peer_or_nobody}
use Rattle.slot.specs.declared.Permission.{Permission}
use Rattle.slot.specs.declared.Channel.{Channel}
use Rattle.slot.specs.declared.Slot.{Slot}
use Rattle.std.specs.Prelude.{Option, Some, None}
use Rattle.slot.specs.Search.{find, has, put_at, at_or}
use Rattle.slot.specs.Slot.{fresh_permission, fresh_channel, with_permissions, with_channels, permits, free_permission, permission_entry, permit, numbered, leads_to, free_channel, peer_taken, channel_entry, bind, Placed}
use Rattle.permission_rules.specs.Permissions.{permit_peer, permit_all, bound}
use Rattle.history.specs.Events.{addresses_of}
use Rattle.history.specs.Statement.{permission_at, channel_at, LiveChannel}
use Rattle.history.proofs.Table.{HasPermission, NeatPermissions, NeatChannels, Neat}
use Rattle.history.proofs.Keep.{nat?}
use Rattle.history.proofs.Tests.{find_some, entry_is, permission_is, permission_free, none_permission, numbered_is, leads_is, none-numbered, none_leads}

abbrev new_permission : ℕ → Address → Permission
new_permission t a = record { address = a; expiry = t + 300 }

abbrev new_channel : ℕ → ℕ → TransportAddress → Channel
new_channel t n p = record { number = n; peer = p; expiry = t + 600 }

-- ---- One permission

-- where the entry is: the live one with the address, or one that is not live while none live has it
pub record Spot (t : ℕ) (a : Address) (ps : List Permission) (j : ℕ) : Type 0 where
  pub room : j < length ps
  pub why : ((t < (permission_at ps j).expiry) × ((permission_at ps j).address ≡ a))
      ⊎ (((permission_at ps j).expiry ≤ t) × ((i : ℕ) → t < (permission_at ps i).expiry → (permission_at ps i).address ≢ a))

spot : (t : ℕ) (a : Address) (ps : List Permission) (j : ℕ) → permission_entry t a ps ≡ Some j → Spot t a ps j
unfolding permission_entry
spot t a ps j e = go (entry_is (permits t a) (free_permission t) ps j e)
  where
    go : (find (permits t a) ps ≡ Some j) ⊎ ((find (permits t a) ps ≡ None) × (find (free_permission t) ps ≡ Some j)) → Spot t a ps j
    go (inl q) = let r = find_some (permits t a) ps fresh_permission j q in record { room = r.1; why = inl (permission_is t a _ r.0) }
    go (inr q) =
        let r = find_some (free_permission t) ps fresh_permission j q.1 in
        record { room = r.1; why = inr (permission_free t _ r.0, none_permission t a ps q.0) }

module _ (t : ℕ) (a : Address) (ps : List Permission) (j : ℕ) (sp : Spot t a ps j) where
  same : permission_at (set ps j (new_permission t a)) j ≡ new_permission t a
  same = get_or-set_same ps j (new_permission t a) fresh_permission sp.room

  other : (i : ℕ) → i ≢ j → permission_at (set ps j (new_permission t a)) i ≡ permission_at ps i
  other i ne = get_or-set_other ps j i (new_permission t a) fresh_permission ne

  grant→ : (b : Address) (u : ℕ) → HasPermission u b (set ps j (new_permission t a)) → ((a ≡ b) × (u < t + 300)) ⊎ HasPermission u b ps
  grant→ b u p = go (nat? p.at j)
    where
      go : (p.at ≡ j) ⊎ (p.at ≢ j) → ((a ≡ b) × (u < t + 300)) ⊎ HasPermission u b ps
      go (inl e) = inl (rw (e, same) at p.same, rw (e, same) at p.live)
      go (inr ne) = inr (record { at = p.at; same = rw (other p.at ne) at p.same; live = rw (other p.at ne) at p.live })

  grant← : NeatPermissions t ps → (b : Address) (u : ℕ) → t ≤ u → ((a ≡ b) × (u < t + 300)) ⊎ HasPermission u b ps
      → HasPermission u b (set ps j (new_permission t a))
  grant← n b u le (inl x) = record { at = j; same = rw same x.0; live = rw same x.1 }
  grant← n b u le (inr p) = go (nat? p.at j) sp.why
    where
      go : (p.at ≡ j) ⊎ (p.at ≢ j)
          → ((t < (permission_at ps j).expiry) × ((permission_at ps j).address ≡ a))
          ⊎ (((permission_at ps j).expiry ≤ t) × ((i : ℕ) → t < (permission_at ps i).expiry → (permission_at ps i).address ≢ a))
          → HasPermission u b (set ps j (new_permission t a))
      go (inr ne) o = record { at = p.at; same = rw (other p.at ne) p.same; live = rw (other p.at ne) p.live }
      go (inl e) (inl x) =
          let s = rw e at p.same in
          let l = rw e at p.live in
          record { at = j; same = rw same (sym x.1 ∙ s); live = rw same (omega (arith, n.short j)) }
      go (inl e) (inr x) = let l : u < (permission_at ps j).expiry = rw e at p.live in let d = x.0 in absurd (omega arith)

  alone : NeatPermissions t ps → (i : ℕ) → i ≢ j → t < (permission_at ps i).expiry → (permission_at ps i).address ≡ a → ⊥
  alone n i ne x e = go sp.why
    where
      go : ((t < (permission_at ps j).expiry) × ((permission_at ps j).address ≡ a))
          ⊎ (((permission_at ps j).expiry ≤ t) × ((i : ℕ) → t < (permission_at ps i).expiry → (permission_at ps i).address ≢ a)) → ⊥
      go (inl y) = ne (n.one_perm i j x y.0 (e ∙ sym y.1))
      go (inr y) = y.1 i x e

  grant_neat : NeatPermissions t ps → NeatPermissions t (set ps j (new_permission t a))
  grant_neat n = record { one_perm = one; short = long }
    where
      one : (i m : ℕ) → t < (permission_at (set ps j (new_permission t a)) i).expiry → t < (permission_at (set ps j (new_permission t a)) m).expiry
          → (permission_at (set ps j (new_permission t a)) i).address ≡ (permission_at (set ps j (new_permission t a)) m).address → i ≡ m
      one i m x y e = go (nat? i j) (nat? m j)
        where
          go : (i ≡ j) ⊎ (i ≢ j) → (m ≡ j) ⊎ (m ≢ j) → i ≡ m
          go (inl p) (inl q) = p ∙ sym q
          go (inl p) (inr q) = absurd (alone n m q (rw (other m q) at y) (sym (rw (p, same, other m q) at e)))
          go (inr p) (inl q) = absurd (alone n i p (rw (other i p) at x) (rw (q, same, other i p) at e))
          go (inr p) (inr q) = n.one_perm i m (rw (other i p) at x) (rw (other m q) at y) (rw (other i p, other m q) at e)

      long : (i : ℕ) → (permission_at (set ps j (new_permission t a)) i).expiry ≤ t + 300
      long i = go (nat? i j)
        where
          go : (i ≡ j) ⊎ (i ≢ j) → (permission_at (set ps j (new_permission t a)) i).expiry ≤ t + 300
          go (inl p) = rw (p, same) (le_refl _)
          go (inr p) = rw (other i p) (n.short i)

-- ---- All addresses of a request
pub record Granting (t : ℕ) (xs : List Address) (ps qs : List Permission) : Type 0 where
  pub neat : NeatPermissions t ps → NeatPermissions t qs
  pub to : (b : Address) (u : ℕ) → HasPermission u b qs → (Memᴰ b xs × (u < t + 300)) ⊎ HasPermission u b ps
  pub from : NeatPermissions t ps → (b : Address) (u : ℕ) → t ≤ u → (Memᴰ b xs × (u < t + 300)) ⊎ HasPermission u b ps → HasPermission u b qs

granting_cons : (t : ℕ) (a : Address) (xs : List Address) (ps qs : List Permission) (j : ℕ) → Spot t a ps j
    → Granting t xs (set ps j (new_permission t a)) qs → Granting t (a ∷ xs) ps qs
granting_cons t a xs ps qs j sp g = record { neat = λ n. g.neat (grant_neat t a ps j sp n); to = to; from = from }
  where
    to : (b : Address) (u : ℕ) → HasPermission u b qs → (Memᴰ b (a ∷ xs) × (u < t + 300)) ⊎ HasPermission u b ps
    to b u p = go (g.to b u p)
      where
        fin : ((a ≡ b) × (u < t + 300)) ⊎ HasPermission u b ps → (Memᴰ b (a ∷ xs) × (u < t + 300)) ⊎ HasPermission u b ps
        fin (inl x) = inl (Memᴰ.head (sym x.0), x.1)
        fin (inr x) = inr x

        go : (Memᴰ b xs × (u < t + 300)) ⊎ HasPermission u b (set ps j (new_permission t a)) → (Memᴰ b (a ∷ xs) × (u < t + 300)) ⊎ HasPermission u b ps
        go (inl x) = inl (Memᴰ.tail x.0, x.1)
        go (inr x) = fin (grant→ t a ps j sp b u x)

    from : NeatPermissions t ps → (b : Address) (u : ℕ) → t ≤ u → (Memᴰ b (a ∷ xs) × (u < t + 300)) ⊎ HasPermission u b ps → HasPermission u b qs
    from n b u le o = g.from (grant_neat t a ps j sp n) b u le (go o)
      where
        mem : Memᴰ b (a ∷ xs) → u < t + 300 → (Memᴰ b xs × (u < t + 300)) ⊎ HasPermission u b (set ps j (new_permission t a))
        mem (Memᴰ.head e) l = inr (grant← t a ps j sp n b u le (inl (sym e, l)))
        mem (Memᴰ.tail m) l = inl (m, l)

        go : (Memᴰ b (a ∷ xs) × (u < t + 300)) ⊎ HasPermission u b ps → (Memᴰ b xs × (u < t + 300)) ⊎ HasPermission u b (set ps j (new_permission t a))
        go (inl x) = mem x.0 x.1
        go (inr x) = inr (grant← t a ps j sp n b u le (inr x))

granting_nil : (t : ℕ) (ps : List Permission) → Granting t [] ps ps
granting_nil t ps = record { neat = λ n. n; to = λ b u p. inr p; from = λ n b u le o. go b u o }
  where
    go : (b : Address) (u : ℕ) → (Memᴰ b [] × (u < t + 300)) ⊎ HasPermission u b ps → HasPermission u b ps
    go b u (inl x) = absurd (Memᴰ.not-nil x.0)
    go b u (inr x) = x

-- ---- What permit does to a slot
pub record Extends (t : ℕ) (xs : List Address) (was slot : Slot) : Type 0 where
  pub allocation_is : slot.allocation ≡ was.allocation
  pub channels_are : slot.channels ≡ was.channels
  pub grants : Granting t xs was.permissions slot.permissions

-- one address, and then others
permit_then : (t : ℕ) (a : Address) (xs : List Address) (was slot : Slot) → (permit t a was).ok ≡ true → Extends t xs (permit t a was).slot slot
    → Extends t (a ∷ xs) was slot
unfolding permit put_at
permit_then t a xs was slot ok x = go (permission_entry t a was.permissions) refl ok x
  where
    go : (f : Option ℕ) → permission_entry t a was.permissions ≡ f → has f ≡ true
        → Extends t xs (with_permissions was (put_at f (new_permission t a) was.permissions)) slot
        → Extends t (a ∷ xs) was slot
    go (Some j) e ok x = record {
      allocation_is = x.allocation_is;
      channels_are = x.channels_are;
      grants = granting_cons t a xs was.permissions slot.permissions j (spot t a was.permissions j e) x.grants;
    }
    go None e ok x = absurd (false≢true ok)

extends_none : (t : ℕ) (slot : Slot) → Extends t [] slot slot
extends_none t slot = record { allocation_is = refl; channels_are = refl; grants = granting_nil t slot.permissions }

pub permit_extends : (t : ℕ) (a : Address) (was : Slot) → (permit t a was).ok ≡ true → Extends t (a ∷ []) was (permit t a was).slot
permit_extends t a was ok = permit_then t a [] was (permit t a was).slot ok (extends_none t (permit t a was).slot)

-- every address of a CreatePermission
pub all_extends : (t : ℕ) (l : List (Option TransportAddress)) (was done : Slot) → (permit_all t l was done).ok ≡ true
    → Extends t (addresses_of l) done (permit_all t l was done).slot
unfolding permit_all permit_peer
all_extends t [] was done ok = extends_none t done
all_extends t (v ∷ l) was done ok = go (permit t (peer_or_nobody v).address done).ok refl ok (all_extends t l was)
  where
    one : Placed
    one = permit t (peer_or_nobody v).address done

    go : (b : Bool) → one.ok ≡ b → (pick b (permit_all t l was one.slot) (record { ok = false; slot = was })).ok ≡ true
        → ((d : Slot) → (permit_all t l was d).ok ≡ true → Extends t (addresses_of l) d (permit_all t l was d).slot)
        → Extends t (addresses_of (v ∷ l)) done (pick b (permit_all t l was one.slot) (record { ok = false; slot = was })).slot
    go true e ok ih = permit_then t (peer_or_nobody v).address (addresses_of l) done _ e (ih one.slot ok)
    go false e ok ih = absurd (false≢true ok)

-- ---- What bind does to the channels
module _ (t n : ℕ) (p : TransportAddress) (cs : List Channel) (m : ℕ) (taken : peer_taken t n p cs ≡ false) (e : channel_entry t n cs ≡ Some m) where
  -- a live channel of the peer has the number
  same_number : NeatChannels t cs → (i : ℕ) → LiveChannel t (channel_at cs i) → (channel_at cs i).peer ≡ p → (channel_at cs i).number ≡ n
  unfolding peer_taken both at_or
  same_number ne i x q = go (find (leads_to t p) cs) refl taken
    where
      go : (f : Option ℕ) → find (leads_to t p) cs ≡ f → both (has f) (not (eqb (at_or fresh_channel f cs).number n)) ≡ false → (channel_at cs i).number ≡ n
      go None r b = absurd (none_leads t p cs r i x q)
      go (Some j) r b =
          let l = leads_is t p _ (find_some (leads_to t p) cs fresh_channel j r).0 in
          let k : i ≡ j = ne.one_peer i j x l.0 (q ∙ sym l.1) in
          rw k (eqb-true _ _ (not-false _ b))

  alone_number : NeatChannels t cs → (i : ℕ) → i ≢ m → LiveChannel t (channel_at cs i) → (channel_at cs i).number ≡ n → ⊥
  unfolding channel_entry
  alone_number ne i d x q = go (entry_is (numbered t n) (free_channel t) cs m e)
    where
      go : (find (numbered t n) cs ≡ Some m) ⊎ ((find (numbered t n) cs ≡ None) × (find (free_channel t) cs ≡ Some m)) → ⊥
      go (inl f) = let r = numbered_is t n _ (find_some (numbered t n) cs fresh_channel m f).0 in d (ne.one_num i m x r.0 (q ∙ sym r.1))
      go (inr f) = none-numbered t n cs f.0 i x q

  channel_room : m < length cs
  unfolding channel_entry
  channel_room = go (entry_is (numbered t n) (free_channel t) cs m e)
    where
      go : (find (numbered t n) cs ≡ Some m) ⊎ ((find (numbered t n) cs ≡ None) × (find (free_channel t) cs ≡ Some m)) → m < length cs
      go (inl f) = (find_some (numbered t n) cs fresh_channel m f).1
      go (inr f) = (find_some (free_channel t) cs fresh_channel m f.1).1

  bound_same : channel_at (set cs m (new_channel t n p)) m ≡ new_channel t n p
  bound_same = get_or-set_same cs m (new_channel t n p) fresh_channel channel_room

  bound_other : (i : ℕ) → i ≢ m → channel_at (set cs m (new_channel t n p)) i ≡ channel_at cs i
  bound_other i d = get_or-set_other cs m i (new_channel t n p) fresh_channel d

  -- of a part of a channel that no two live ones share: so it is afterwards, where no other live one has the new channel's
  still_one : {X : Type 0} (part : Channel → X) → ((i j : ℕ) → LiveChannel t (channel_at cs i) → LiveChannel t (channel_at cs j) → part (channel_at cs i) ≡ part (channel_at cs j) → i ≡ j)
      → ((i : ℕ) → i ≢ m → LiveChannel t (channel_at cs i) → part (channel_at cs i) ≡ part (new_channel t n p) → ⊥)
      → (i j : ℕ) → LiveChannel t (channel_at (set cs m (new_channel t n p)) i) → LiveChannel t (channel_at (set cs m (new_channel t n p)) j)
      → part (channel_at (set cs m (new_channel t n p)) i) ≡ part (channel_at (set cs m (new_channel t n p)) j) → i ≡ j
  still_one part one alone i j x y q = go (nat? i m) (nat? j m)
    where
      go : (i ≡ m) ⊎ (i ≢ m) → (j ≡ m) ⊎ (j ≢ m) → i ≡ j
      go (inl f) (inl g) = f ∙ sym g
      go (inl f) (inr g) = absurd (alone j g (rw (bound_other j g) at y) (sym (rw (f, bound_same, bound_other j g) at q)))
      go (inr f) (inl g) = absurd (alone i f (rw (bound_other i f) at x) (rw (g, bound_same, bound_other i f) at q))
      go (inr f) (inr g) = one i j (rw (bound_other i f) at x) (rw (bound_other j g) at y) (rw (bound_other i f, bound_other j g) at q)

  bind_neat : NeatChannels t cs → NeatChannels t (set cs m (new_channel t n p))
  bind_neat ne = record {
    one_num = still_one (λ c. c.number) ne.one_num (alone_number ne);
    one_peer = still_one (λ c. c.peer) ne.one_peer (λ i d x q. alone_number ne i d x (same_number ne i x q));
  }

-- ---- What an accepted CreatePermission or ChannelBind for these addresses does to a slot
pub record Admits (t : ℕ) (xs : List Address) (was slot : Slot) : Type 0 where
  pub allocation_is : slot.allocation ≡ was.allocation
  pub channels_neat : NeatChannels t was.channels → NeatChannels t slot.channels
  pub grants : Granting t xs was.permissions slot.permissions

pub all_admitted : (t : ℕ) (l : List (Option TransportAddress)) (was : Slot) → (permit_all t l was was).ok ≡ true → Admits t (addresses_of l) was (permit_all t l was was).slot
all_admitted t l was ok =
    let x = all_extends t l was was ok in
    record { allocation_is = x.allocation_is; channels_neat = λ n. rw x.channels_are n; grants = x.grants }

pub bound_admitted : (t n : ℕ) (p : TransportAddress) (was : Slot) → peer_taken t n p was.channels ≡ false → (permit t p.address was).ok ≡ true
    → (bind t n p (permit t p.address was).slot).ok ≡ true → Admits t (p.address ∷ []) was (bound t n p was)
unfolding bound bind put_at
bound_admitted t n p was taken ok ok' =
    let x = permit_extends t p.address was ok in
    go (permit t p.address was).slot x (channel_entry t n (permit t p.address was).slot.channels) refl ok'
  where
    go : (half : Slot) → Extends t (p.address ∷ []) was half → (f : Option ℕ) → channel_entry t n half.channels ≡ f → has f ≡ true
        → Admits t (p.address ∷ []) was (with_channels half (put_at f (new_channel t n p) half.channels))
    go half x None e ok = absurd (false≢true ok)
    go half x (Some m) e ok = record {
      allocation_is = x.allocation_is;
      channels_neat = neat;
      grants = x.grants;
    }
      where
        neat : NeatChannels t was.channels → NeatChannels t (put_at (Some m) (new_channel t n p) half.channels)
        neat ne = rw x.channels_are (bind_neat t n p was.channels m taken (rw x.channels_are at e) ne)

-- ---- A fresh slot
pub fresh_bare : (n : ℕ) (a : Address) (t : ℕ) → HasPermission t a (replicate n fresh_permission) → ⊥
fresh_bare n a t p = not-suc-le-zero (rw (all_same fresh_permission n p.at) at p.live)

pub fresh_neat : (n m t : ℕ) → Neat t (replicate n fresh_permission) (replicate m fresh_channel)
fresh_neat n m t = record {
  perms = record { one_perm = λ i j x y e. absurd (not-suc-le-zero (rw (all_same fresh_permission n i) at x)); short = λ j. rw (all_same fresh_permission n j) zero-le };
  chans = record {
    one_num = λ i j x y e. absurd (not-suc-le-zero (rw (all_same fresh_channel m i) at x.0));
    one_peer = λ i j x y e. absurd (not-suc-le-zero (rw (all_same fresh_channel m i) at x.0));
  };
}
