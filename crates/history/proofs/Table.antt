-- A table seen as a function from slot numbers to slots; what a call may do to it (Change); that what was counted accounts for it (Accounts).
use mathlib.Core.Path.{◌≡◌, refl}
use mathlib.Core.Logic.{◌≢◌, ◌⊎◌}
use mathlib.Core.Bool.{Bool, true, false}
use mathlib.Core.List.{List, Memᴰ}
use Prim.Native.Nat.{ℕ, ◌+◌, ◌<◌, ◌≤◌}
use native.Mathlib.Omega.{arith}
use native.Mathlib.Nat.{le_refl}
use Rattle.address.specs.declared.Address.{Address}
use Rattle.address.specs.declared.FiveTuple.{FiveTuple}
use Rattle.slot.specs.declared.Permission.{Permission}
use Rattle.slot.specs.declared.Channel.{Channel}
use Rattle.slot.specs.declared.Slot.{Slot}
use Rattle.table.specs.Table.{slot_at}
use Rattle.state.specs.State.{State, clock_of}
use Rattle.history.specs.Counted.{Counted, gave, kept, allowed, nothing, granted}
use Rattle.history.specs.Statement.{permission_at, channel_at, Live, LiveChannel}
use Rattle.history.proofs.Readings.{Given, Granted, Allowed, AnyAllowed, Forgotten, given_port, given_holder, granted_is}

pub record HasPermission (t : ℕ) (a : Address) (ps : List Permission) : Type 0 where
  pub at : ℕ
  pub same : (permission_at ps at).address ≡ a
  pub live : t < (permission_at ps at).expiry

-- what lasts at a time lasted before it
pub permission_before : {t u : ℕ} {a : Address} {ps : List Permission} → u ≤ t → HasPermission t a ps → HasPermission u a ps
permission_before le p = record { at = p.at; same = p.same; live = omega (arith, p.live) }

-- what the permissions show of an address: an entry for it; or none was accepted, or the last had ended when another was
abbrev pub Known : List Counted → FiveTuple → Address → List Permission → Type 0
Known h C a ps = HasPermission 0 a ps ⊎ ((AnyAllowed h C a → ⊥) ⊎ Forgotten h C a)

-- within one slot: demand 3's second sentence; and no permission outlasts 300 seconds
pub record NeatPermissions (t : ℕ) (ps : List Permission) : Type 0 where
  pub one_perm : (i j : ℕ) → t < (permission_at ps i).expiry → t < (permission_at ps j).expiry → (permission_at ps i).address ≡ (permission_at ps j).address → i ≡ j
  pub short : (j : ℕ) → (permission_at ps j).expiry ≤ t + 300

pub record NeatChannels (t : ℕ) (cs : List Channel) : Type 0 where
  pub one_num : (i j : ℕ) → LiveChannel t (channel_at cs i) → LiveChannel t (channel_at cs j) → (channel_at cs i).number ≡ (channel_at cs j).number → i ≡ j
  pub one_peer : (i j : ℕ) → LiveChannel t (channel_at cs i) → LiveChannel t (channel_at cs j) → (channel_at cs i).peer ≡ (channel_at cs j).peer → i ≡ j

pub record Neat (t : ℕ) (ps : List Permission) (cs : List Channel) : Type 0 where
  pub perms : NeatPermissions t ps
  pub chans : NeatChannels t cs

pub neat_later : (t u : ℕ) (ps : List Permission) (cs : List Channel) → t ≤ u → Neat t ps cs → Neat u ps cs
neat_later t u ps cs h n = record {
  perms = record { one_perm = λ i j x y. n.perms.one_perm i j (omega arith) (omega arith); short = λ j. omega (arith, n.perms.short j) };
  chans = record { one_num = λ i j x y. n.chans.one_num i j (omega arith) (omega arith); one_peer = λ i j x y. n.chans.one_peer i j (omega arith) (omega arith) };
}

-- of a slot
abbrev pub Tidy : ℕ → Slot → Type 0
Tidy t s = Neat t s.permissions s.channels

abbrev pub View : Type 0
View = ℕ → Slot

-- every slot but k that is live before or after is the same before and after
pub record Frame (now k : ℕ) (v w : View) : Type 0 where
  pub before : (i : ℕ) → i ≢ k → Live now (v i) → w i ≡ v i
  pub after : (i : ℕ) → i ≢ k → Live now (w i) → w i ≡ v i

pub record Quiet (now : ℕ) (v w : View) : Type 0 where
  pub before : (i : ℕ) → Live now (v i) → w i ≡ v i
  pub after : (i : ℕ) → Live now (w i) → w i ≡ v i

pub record Allot (now : ℕ) (v w : View) (C : FiveTuple) (R n : ℕ) : Type 0 where
  pub k : ℕ
  pub frame : Frame now k v w
  pub free : Live now (v k) → ⊥
  pub new_who : (i : ℕ) → Live now (v i) → (v i).allocation.five_tuple ≢ C
  pub new_port : (i : ℕ) → Live now (v i) → (v i).allocation.port ≢ R
  pub who : (w k).allocation.five_tuple ≡ C
  pub port : (w k).allocation.port ≡ R
  pub until : (w k).allocation.expiry ≡ now + n
  pub some_time : n ≢ 0
  pub an_hour : n ≤ 3600
  pub bare : (a : Address) (t : ℕ) → HasPermission t a (w k).permissions → ⊥
  pub neat : Tidy now (w k)

pub record Renew (now : ℕ) (v w : View) (C : FiveTuple) (n : ℕ) : Type 0 where
  pub k : ℕ
  pub frame : Frame now k v w
  pub live : Live now (v k)
  pub mine : (v k).allocation.five_tuple ≡ C
  pub who : (w k).allocation.five_tuple ≡ (v k).allocation.five_tuple
  pub port : (w k).allocation.port ≡ (v k).allocation.port
  pub perms : (w k).permissions ≡ (v k).permissions
  pub chans : (w k).channels ≡ (v k).channels
  pub until : (w k).allocation.expiry ≡ now + n
  pub some_time : n ≢ 0
  pub an_hour : n ≤ 3600

pub record End (now : ℕ) (v w : View) (C : FiveTuple) (n : ℕ) : Type 0 where
  pub k : ℕ
  pub frame : Frame now k v w
  pub live : Live now (v k)
  pub mine : (v k).allocation.five_tuple ≡ C
  pub gone : Live now (w k) → ⊥
  pub no_time : n ≡ 0

pub record Admit (now : ℕ) (v w : View) (C : FiveTuple) (xs : List Address) : Type 0 where
  pub k : ℕ
  pub frame : Frame now k v w
  pub live : Live now (v k)
  pub mine : (v k).allocation.five_tuple ≡ C
  pub who : (w k).allocation.five_tuple ≡ (v k).allocation.five_tuple
  pub port : (w k).allocation.port ≡ (v k).allocation.port
  pub until : (w k).allocation.expiry ≡ (v k).allocation.expiry
  pub neat : Tidy now (v k) → Tidy now (w k)
  pub some : (a : Address) × Memᴰ a xs
  pub perms→ : (a : Address) (t : ℕ) → HasPermission t a (w k).permissions → (Memᴰ a xs × (t < now + 300)) ⊎ HasPermission t a (v k).permissions
  pub perms← : Tidy now (v k) → (a : Address) (t : ℕ) → now ≤ t → (Memᴰ a xs × (t < now + 300)) ⊎ HasPermission t a (v k).permissions → HasPermission t a (w k).permissions

-- what a call that counts as this does to the table, at its time
abbrev pub Change : ℕ → View → View → Counted → Type 0
Change now v w nothing = Quiet now v w
Change now v w (gave C R s n) = (s ≡ now) × Allot now v w C R n
Change now v w (kept C s n) = (s ≡ now) × (Renew now v w C n ⊎ End now v w C n)
Change now v w (allowed C xs ends) = (ends ≡ now + 300) × Admit now v w C xs

-- ---- What was counted accounts for the table: whatever the table says at the clock or later, the history says
pub record Accounts (clock : ℕ) (v : View) (h : List Counted) : Type 0 where
  pub own : (i j : ℕ) → Live clock (v i) → Live clock (v j) → (v i).allocation.five_tuple ≡ (v j).allocation.five_tuple → i ≡ j
  pub short : (i : ℕ) → Live clock (v i) → (v i).allocation.expiry ≤ clock + 3600
  pub neat : (i : ℕ) → Live clock (v i) → Tidy clock (v i)
  pub given : (i : ℕ) → Live clock (v i) → Given h (v i).allocation.five_tuple (v i).allocation.port
  pub granted→ : (i : ℕ) → Live clock (v i) → (t : ℕ) → clock ≤ t → t < (v i).allocation.expiry → Granted h (v i).allocation.five_tuple t
  pub granted← : (C : FiveTuple) (t : ℕ) → clock ≤ t → Granted h C t → (i : ℕ) × ((v i).allocation.five_tuple ≡ C) × (t < (v i).allocation.expiry)
  pub allowed→ : (i : ℕ) → Live clock (v i) → (a : Address) (t : ℕ) → HasPermission t a (v i).permissions → Allowed h (v i).allocation.five_tuple a t
  pub allowed← : (i : ℕ) → Live clock (v i) → (a : Address) (t : ℕ) → clock ≤ t → Allowed h (v i).allocation.five_tuple a t → HasPermission t a (v i).permissions
  pub known : (i : ℕ) → Live clock (v i) → (a : Address) → Known h (v i).allocation.five_tuple a (v i).permissions

-- of the relay's state
abbrev pub AccountsFor : List Counted → State → Type 0
AccountsFor past st = Accounts (clock_of st) (slot_at st.slots) past

-- two live allocations never share a port
pub own_port : (clock : ℕ) (v : View) (h : List Counted) → Accounts clock v h → (i j : ℕ) → Live clock (v i) → Live clock (v j) → (v i).allocation.port ≡ (v j).allocation.port → i ≡ j
own_port clock v h I i j x y e = I.own i j x y (given_holder h _ _ _ (I.given i x) (rw e (I.given j y)))

-- time passes
pub accounts_later : (clock now : ℕ) (v : View) (h : List Counted) → clock ≤ now → Accounts clock v h → Accounts now v h
accounts_later clock now v h le I = record {
  own = λ i j x y. I.own i j (omega arith) (omega arith);
  short = λ i x. omega (arith, I.short i (omega arith));
  neat = λ i x. neat_later clock now _ _ le (I.neat i (omega arith));
  given = λ i x. I.given i (omega arith);
  granted→ = λ i x t p. I.granted→ i (omega arith) t (omega arith);
  granted← = λ C t p. I.granted← C t (omega arith);
  allowed→ = λ i x. I.allowed→ i (omega arith);
  allowed← = λ i x a t p. I.allowed← i (omega arith) a t (omega arith);
  known = λ i x. I.known i (omega arith);
}

-- a client has a lifetime that lasts just where it has a live slot
module _ (now : ℕ) (v : View) (h : List Counted) (I : Accounts now v h) (C : FiveTuple) where
  pub has-lifetime : (i : ℕ) → Live now (v i) → (v i).allocation.five_tuple ≡ C → granted h C now ≡ true
  has-lifetime i x e = (granted_is h C now).1 (rw e at (I.granted→ i x now (le_refl now) x))

  pub no_lifetime : ((i : ℕ) → Live now (v i) → (v i).allocation.five_tuple ≢ C) → granted h C now ≡ false
  no_lifetime none = go (granted h C now) refl
    where
      go : (b : Bool) → granted h C now ≡ b → b ≡ false
      go true e = let s = I.granted← C now (le_refl now) ((granted_is h C now).0 e) in absurd (none s.0 s.2 s.1)
      go false e = refl

-- whom a peer's datagram reaches, read off the table
pub record Reach (v : View) (C : FiveTuple) (R : ℕ) (a : Address) (t : ℕ) : Type 0 where
  pub i : ℕ
  pub live : Live t (v i)
  pub who : (v i).allocation.five_tuple ≡ C
  pub port : (v i).allocation.port ≡ R
  pub perm : HasPermission t a (v i).permissions

pub reach→ : (clock : ℕ) (v : View) (h : List Counted) → Accounts clock v h → (C : FiveTuple) (R : ℕ) (a : Address) (t : ℕ) → clock ≤ t → Reach v C R a t → Given h C R × Granted h C t × Allowed h C a t
reach→ clock v h I C R a t le r =
    let l : Live clock (v r.i) = omega arith in
    rw (← r.who, ← r.port) (I.given r.i l, I.granted→ r.i l t le r.live, I.allowed→ r.i l a t r.perm)

pub reach← : (clock : ℕ) (v : View) (h : List Counted) → Accounts clock v h → (C : FiveTuple) (R : ℕ) (a : Address) (t : ℕ) → clock ≤ t → Given h C R → Granted h C t → Allowed h C a t → Reach v C R a t
reach← clock v h I C R a t le g l p =
    let s = I.granted← C t le l in
    let i : ℕ = s.0 in
    let lt : t < (v i).allocation.expiry = s.2 in
    let lv : Live clock (v i) = omega arith in
    record { i = i; live = lt; who = s.1; port = given_port h C (v i).allocation.port R (rw s.1 at (I.given i lv)) g; perm = I.allowed← i lv a t le (rw s.1 p) }
