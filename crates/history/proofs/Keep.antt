-- Whatever a call counts as: where what was counted accounts for the table before it, it does so after it.
use mathlib.Core.Path.{◌≡◌, refl, sym, ◌∙◌, ap, subst}
use mathlib.Core.Logic.{◌≢◌, ◌⊎◌, inl, inr}
use mathlib.Core.List.{List, ◌∷◌, Memᴰ}
use Prim.Native.Nat.{ℕ, ◌+◌, ◌<◌, ◌≤◌, zero-le}
use native.Mathlib.Omega.{arith}
use native.Mathlib.Nat.{le_refl}
use lib.Dec.{eqb}
use mathlib.Core.Bool.{Bool, true, false}
use borrow.Author.Tests.{eqb-true, eqb-false}
use Rattle.address.specs.declared.Address.{Address}
use Rattle.address.specs.declared.FiveTuple.{FiveTuple}
use Rattle.slot.specs.declared.Slot.{Slot}
use Rattle.slot.specs.declared.Permission.{Permission}
use Rattle.history.specs.Counted.{Counted, gave, kept, allowed, nothing}
use Rattle.history.specs.Statement.{Live}
use Rattle.history.proofs.Readings.{Given, Granted, Allowed, AnyAllowed, Forgotten}
use Rattle.history.proofs.Table.{View, HasPermission, permission_before, Known, Tidy, Frame, Quiet, Allot, Renew, End, Admit, Change, Accounts, accounts_later}
use Rattle.history.proofs.Tests.{permission?}

pub nat? : (a b : ℕ) → (a ≡ b) ⊎ (a ≢ b)
nat? a b = go (eqb a b) refl
  where
    go : (t : Bool) → eqb a b ≡ t → (a ≡ b) ⊎ (a ≢ b)
    go true e = inl (eqb-true a b e)
    go false e = inr (eqb-false a b e)

-- a slot that is live after the call is the one written, or it was live before and is the same
at? : (now k : ℕ) (v w : View) → Frame now k v w → (i : ℕ) → Live now (w i) → (i ≡ k) ⊎ ((i ≢ k) × (w i ≡ v i) × Live now (v i))
at? now k v w f i x = go (nat? i k)
  where
    go : (i ≡ k) ⊎ (i ≢ k) → (i ≡ k) ⊎ ((i ≢ k) × (w i ≡ v i) × Live now (v i))
    go (inl e) = inl e
    go (inr e) = let p = f.after i e x in inr (e, p, rw p at x)

-- so a fact about each slot that is live after the call is shown for the one written, and for the others from before
by_slot : (now k : ℕ) (v w : View) → Frame now k v w → (P : ℕ → Type 0) → P k → ((i : ℕ) → i ≢ k → w i ≡ v i → Live now (v i) → P i) → (i : ℕ) → Live now (w i) → P i
by_slot now k v w f P a b i x = go (at? now k v w f i x)
  where
    go : (i ≡ k) ⊎ ((i ≢ k) × (w i ≡ v i) × Live now (v i)) → P i
    go (inl e) = subst P (sym e) a
    go (inr q) = b i q.0 q.1 q.2

-- what is known of an address stays known, where the requests that were accepted stay
known_more : (h g : List Counted) (C : FiveTuple) (a : Address) {ps : List Permission} → (AnyAllowed g C a → AnyAllowed h C a) → (Forgotten h C a → Forgotten g C a)
    → Known h C a ps → Known g C a ps
known_more h g C a had f (inl y) = inl y
known_more h g C a had f (inr (inl none)) = inr (inl (λ y. none (had y)))
known_more h g C a had f (inr (inr y)) = inr (inr (f y))

-- slots that are not live may change in any way that leaves them not live: a sweep, say
pub accounts_quiet : (now : ℕ) (v w : View) (h : List Counted) → Accounts now v h → Quiet now v w → Accounts now w h
accounts_quiet now v w h I q = record {
  own = λ i j x y e. let p = q.after i x in let r = q.after j y in I.own i j (rw p at x) (rw r at y) (rw (p, r) at e);
  short = λ i x. let p = q.after i x in rw p (I.short i (rw p at x));
  neat = λ i x. let p = q.after i x in rw p (I.neat i (rw p at x));
  given = λ i x. let p = q.after i x in rw p (I.given i (rw p at x));
  granted→ = λ i x t le y. let p = q.after i x in rw p (I.granted→ i (rw p at x) t le (rw p at y));
  granted← = λ C t le g. let s = I.granted← C t le g in let i : ℕ = s.0 in let lt : t < (v i).allocation.expiry = s.2 in let p = q.before i (omega arith) in (i, rw p s.1, rw p lt);
  allowed→ = λ i x a t y. let p = q.after i x in rw p (I.allowed→ i (rw p at x) a t (rw p at y));
  allowed← = λ i x a t le y. let p = q.after i x in rw p (I.allowed← i (rw p at x) a t le (rw p at y));
  known = λ i x. let p = q.after i x in rw p (I.known i (rw p at x));
}

-- a call that counts for nothing
accounts_nothing : (now : ℕ) (v : View) (h : List Counted) → Accounts now v h → Accounts now v (nothing ∷ h)
accounts_nothing now v h I = record { own = I.own; short = I.short; neat = I.neat; given = I.given; granted→ = I.granted→; granted← = I.granted←; allowed→ = I.allowed→; allowed← = I.allowed←; known = I.known }

module _ (now : ℕ) (v w : View) (h : List Counted) (I : Accounts now v h) where
  module _ (C : FiveTuple) (R n : ℕ) (c : Allot now v w C R n) where
    allot_own : (i j : ℕ) → Live now (w i) → Live now (w j) → (w i).allocation.five_tuple ≡ (w j).allocation.five_tuple → i ≡ j
    allot_own i j x y e = go (at? now c.k v w c.frame i x) (at? now c.k v w c.frame j y)
      where
        go : (i ≡ c.k) ⊎ ((i ≢ c.k) × (w i ≡ v i) × Live now (v i)) → (j ≡ c.k) ⊎ ((j ≢ c.k) × (w j ≡ v j) × Live now (v j)) → i ≡ j
        go (inl p) (inl q) = cc
        go (inl p) (inr q) = absurd (c.new_who j q.2 (cc (ap (λ (s : Slot). s.allocation.five_tuple) q.1, c.who, ap (λ (m : ℕ). (w m).allocation.five_tuple) p)))
        go (inr p) (inl q) = absurd (c.new_who i p.2 (cc (ap (λ (s : Slot). s.allocation.five_tuple) p.1, c.who, ap (λ (m : ℕ). (w m).allocation.five_tuple) q)))
        go (inr p) (inr q) = I.own i j p.2 q.2 (rw (p.1, q.1) at e)

    keep_allot : Accounts now w (gave C R now n ∷ h)
    keep_allot = record {
      own = allot_own;
      short = by_slot now c.k v w c.frame (λ i. (w i).allocation.expiry ≤ now + 3600) (rw c.until (omega (arith, c.an_hour))) (λ i ne p x. rw p (I.short i x));
      neat = by_slot now c.k v w c.frame (λ i. Tidy now (w i)) c.neat (λ i ne p x. rw p (I.neat i x));
      given = by_slot now c.k v w c.frame (λ i. Given (gave C R now n ∷ h) (w i).allocation.five_tuple (w i).allocation.port) (inl (c.who, c.port)) (λ i ne p x. rw p (inr (c.new_who i x, c.new_port i x, I.given i x)));
      granted→ = by_slot now c.k v w c.frame (λ i. (t : ℕ) → now ≤ t → t < (w i).allocation.expiry → Granted (gave C R now n ∷ h) (w i).allocation.five_tuple t)
          (λ t le y. inl (c.who, record { not_zero = c.some_time; not_over = rw c.until at y }))
          (λ i ne p x t le y. rw p (inr (c.new_who i x, I.granted→ i x t le (rw p at y))));
      granted← = back;
      allowed→ = by_slot now c.k v w c.frame (λ i. (a : Address) (t : ℕ) → HasPermission t a (w i).permissions → Allowed (gave C R now n ∷ h) (w i).allocation.five_tuple a t)
          (λ a t y. absurd (c.bare a t y))
          (λ i ne p x a t y. rw p (c.new_who i x, I.allowed→ i x a t (rw p at y)));
      allowed← = by_slot now c.k v w c.frame (λ i. (a : Address) (t : ℕ) → now ≤ t → Allowed (gave C R now n ∷ h) (w i).allocation.five_tuple a t → HasPermission t a (w i).permissions)
          (λ a t le y. absurd (y.0 c.who))
          (λ i ne p x a t le y. rw p (I.allowed← i x a t le (rw p at y.1)));
      known = by_slot now c.k v w c.frame (λ i. (a : Address) → Known (gave C R now n ∷ h) (w i).allocation.five_tuple a (w i).permissions)
          (λ a. inr (inl (λ y. y.0 c.who)))
          (λ i ne p x a. rw p (known_more h (gave C R now n ∷ h) (v i).allocation.five_tuple a (λ y. y.1) (λ f. (c.new_who i x, f)) (I.known i x a)));
    }
      where
        back : (D : FiveTuple) (t : ℕ) → now ≤ t → Granted (gave C R now n ∷ h) D t → (i : ℕ) × ((w i).allocation.five_tuple ≡ D) × (t < (w i).allocation.expiry)
        back D t le (inl g) = (c.k, c.who ∙ sym g.0, rw c.until g.1.not_over)
        back D t le (inr g) =
            let s = I.granted← D t le g.1 in
            let i : ℕ = s.0 in
            let lt : t < (v i).allocation.expiry = s.2 in
            let x : Live now (v i) = omega arith in
            let p = c.frame.before i (λ (e : i ≡ c.k). c.free (rw e at x)) x in
            (i, rw p s.1, rw p lt)

  -- a call on one live slot that keeps its 5-tuple
  module _ (k : ℕ) (f : Frame now k v w) (live : Live now (v k)) (who : (w k).allocation.five_tuple ≡ (v k).allocation.five_tuple) where
    same_own : (i j : ℕ) → Live now (w i) → Live now (w j) → (w i).allocation.five_tuple ≡ (w j).allocation.five_tuple → i ≡ j
    same_own i j x y e =
        let p = by_slot now k v w f (λ m. Live now (v m) × ((w m).allocation.five_tuple ≡ (v m).allocation.five_tuple)) (live, who) (λ m ne q z. (z, ap (λ (s : Slot). s.allocation.five_tuple) q)) i x in
        let r = by_slot now k v w f (λ m. Live now (v m) × ((w m).allocation.five_tuple ≡ (v m).allocation.five_tuple)) (live, who) (λ m ne q z. (z, ap (λ (s : Slot). s.allocation.five_tuple) q)) j y in
        I.own i j p.0 r.0 (sym p.1 ∙ e ∙ r.1)

    -- another live slot has another 5-tuple
    other : (i : ℕ) → i ≢ k → Live now (v i) → (C : FiveTuple) → (v k).allocation.five_tuple ≡ C → (v i).allocation.five_tuple ≢ C
    other i ne x C m e = ne (I.own i k x live (e ∙ sym m))

  -- what was granted to another client, a slot other than C's shows, before and after
  elsewhere : (k : ℕ) → Frame now k v w → (C : FiveTuple) → (v k).allocation.five_tuple ≡ C → (D : FiveTuple) (t : ℕ) → now ≤ t → D ≢ C → Granted h D t
      → (i : ℕ) × ((w i).allocation.five_tuple ≡ D) × (t < (w i).allocation.expiry)
  elsewhere k f C mine D t le ne g =
      let s = I.granted← D t le g in
      let i : ℕ = s.0 in
      let lt : t < (v i).allocation.expiry = s.2 in
      let x : Live now (v i) = omega arith in
      let p = f.before i (λ (e : i ≡ k). ne (sym s.1 ∙ ap (λ (m : ℕ). (v m).allocation.five_tuple) e ∙ mine)) x in
      (i, rw p s.1, rw p lt)

  keep_renew : (C : FiveTuple) (n : ℕ) (c : Renew now v w C n) → Accounts now w (kept C now n ∷ h)
  keep_renew C n c = record {
    own = same_own c.k c.frame c.live c.who;
    short = by_slot now c.k v w c.frame (λ i. (w i).allocation.expiry ≤ now + 3600) (rw c.until (omega (arith, c.an_hour))) (λ i ne p x. rw p (I.short i x));
    neat = by_slot now c.k v w c.frame (λ i. Tidy now (w i)) (rw (c.perms, c.chans) (I.neat c.k c.live)) (λ i ne p x. rw p (I.neat i x));
    given = by_slot now c.k v w c.frame (λ i. Given h (w i).allocation.five_tuple (w i).allocation.port) (rw (c.who, c.port) (I.given c.k c.live)) (λ i ne p x. rw p (I.given i x));
    granted→ = by_slot now c.k v w c.frame (λ i. (t : ℕ) → now ≤ t → t < (w i).allocation.expiry → Granted (kept C now n ∷ h) (w i).allocation.five_tuple t)
        (λ t le y. inl (c.who ∙ c.mine, record { not_zero = c.some_time; not_over = rw c.until at y }))
        (λ i ne p x t le y. rw p (inr (other c.k c.frame c.live c.who i ne x C c.mine, I.granted→ i x t le (rw p at y))));
    granted← = back;
    allowed→ = by_slot now c.k v w c.frame (λ i. (a : Address) (t : ℕ) → HasPermission t a (w i).permissions → Allowed h (w i).allocation.five_tuple a t)
        (λ a t y. rw c.who (I.allowed→ c.k c.live a t (rw c.perms at y)))
        (λ i ne p x a t y. rw p (I.allowed→ i x a t (rw p at y)));
    allowed← = by_slot now c.k v w c.frame (λ i. (a : Address) (t : ℕ) → now ≤ t → Allowed h (w i).allocation.five_tuple a t → HasPermission t a (w i).permissions)
        (λ a t le y. rw c.perms (I.allowed← c.k c.live a t le (rw c.who at y)))
        (λ i ne p x a t le y. rw p (I.allowed← i x a t le (rw p at y)));
    known = by_slot now c.k v w c.frame (λ i. (a : Address) → Known h (w i).allocation.five_tuple a (w i).permissions)
        (rw (c.who, c.perms) (I.known c.k c.live))
        (λ i ne p x. rw p (I.known i x));
  }
    where
      back : (D : FiveTuple) (t : ℕ) → now ≤ t → Granted (kept C now n ∷ h) D t → (i : ℕ) × ((w i).allocation.five_tuple ≡ D) × (t < (w i).allocation.expiry)
      back D t le (inl g) = (c.k, c.who ∙ c.mine ∙ sym g.0, rw c.until g.1.not_over)
      back D t le (inr g) = elsewhere c.k c.frame C c.mine D t le g.0 g.1

  keep_end : (C : FiveTuple) (n : ℕ) (c : End now v w C n) → Accounts now w (kept C now n ∷ h)
  keep_end C n c = record {
    own = λ i j x y e. let p = at i x in let r = at j y in I.own i j p.2 r.2 (rw (p.1, r.1) at e);
    short = λ i x. let p = at i x in rw p.1 (I.short i p.2);
    neat = λ i x. let p = at i x in rw p.1 (I.neat i p.2);
    given = λ i x. let p = at i x in rw p.1 (I.given i p.2);
    granted→ = λ i x t le y. let p = at i x in rw p.1 (inr (ne i p.0 p.2, I.granted→ i p.2 t le (rw p.1 at y)));
    granted← = back;
    allowed→ = λ i x a t y. let p = at i x in rw p.1 (I.allowed→ i p.2 a t (rw p.1 at y));
    allowed← = λ i x a t le y. let p = at i x in rw p.1 (I.allowed← i p.2 a t le (rw p.1 at y));
    known = λ i x. let p = at i x in rw p.1 (I.known i p.2);
  }
    where
      at : (i : ℕ) → Live now (w i) → (i ≢ c.k) × (w i ≡ v i) × Live now (v i)
      at i x = go (at? now c.k v w c.frame i x)
        where
          go : (i ≡ c.k) ⊎ ((i ≢ c.k) × (w i ≡ v i) × Live now (v i)) → (i ≢ c.k) × (w i ≡ v i) × Live now (v i)
          go (inl e) = absurd (c.gone (rw e at x))
          go (inr q) = q

      ne : (i : ℕ) → i ≢ c.k → Live now (v i) → (v i).allocation.five_tuple ≢ C
      ne i d x e = d (I.own i c.k x c.live (e ∙ sym c.mine))

      back : (D : FiveTuple) (t : ℕ) → now ≤ t → Granted (kept C now n ∷ h) D t → (i : ℕ) × ((w i).allocation.five_tuple ≡ D) × (t < (w i).allocation.expiry)
      back D t le (inl g) = absurd (g.1.not_zero c.no_time)
      back D t le (inr g) = elsewhere c.k c.frame C c.mine D t le g.0 g.1

  keep_admit : (C : FiveTuple) (xs : List Address) (c : Admit now v w C xs) → Accounts now w (allowed C xs (now + 300) ∷ h)
  keep_admit C xs c = record {
    own = same_own c.k c.frame c.live c.who;
    short = by_slot now c.k v w c.frame (λ i. (w i).allocation.expiry ≤ now + 3600) (rw c.until (I.short c.k c.live)) (λ i ne p x. rw p (I.short i x));
    neat = by_slot now c.k v w c.frame (λ i. Tidy now (w i)) (c.neat (I.neat c.k c.live)) (λ i ne p x. rw p (I.neat i x));
    given = by_slot now c.k v w c.frame (λ i. Given h (w i).allocation.five_tuple (w i).allocation.port) (rw (c.who, c.port) (I.given c.k c.live)) (λ i ne p x. rw p (I.given i x));
    granted→ = by_slot now c.k v w c.frame (λ i. (t : ℕ) → now ≤ t → t < (w i).allocation.expiry → Granted h (w i).allocation.five_tuple t)
        (λ t le y. rw c.who (I.granted→ c.k c.live t le (rw c.until at y)))
        (λ i ne p x t le y. rw p (I.granted→ i x t le (rw p at y)));
    granted← = back;
    allowed→ = by_slot now c.k v w c.frame (λ i. (a : Address) (t : ℕ) → HasPermission t a (w i).permissions → Allowed (allowed C xs (now + 300) ∷ h) (w i).allocation.five_tuple a t)
        (λ a t y. into a t (c.perms→ a t y))
        (λ i ne p x a t y. rw p (inr (I.allowed→ i x a t (rw p at y))));
    allowed← = by_slot now c.k v w c.frame (λ i. (a : Address) (t : ℕ) → now ≤ t → Allowed (allowed C xs (now + 300) ∷ h) (w i).allocation.five_tuple a t → HasPermission t a (w i).permissions)
        (λ a t le y. c.perms← (I.neat c.k c.live) a t le (out a t le (rw c.who at y)))
        (λ i ne p x a t le y. rw p (off i ne x a t le (rw p at y)));
    known = by_slot now c.k v w c.frame (λ i. (a : Address) → Known (allowed C xs (now + 300) ∷ h) (w i).allocation.five_tuple a (w i).permissions)
        (λ a. shown a (permission? 0 a (w c.k).permissions))
        (λ i ne p x a. rw p (let apart = other c.k c.frame c.live c.who i ne x C c.mine in
        known_more h (allowed C xs (now + 300) ∷ h) (v i).allocation.five_tuple a (not_theirs _ a apart) (λ f. (λ e. absurd (apart e), inr f)) (I.known i x a)));
  }
    where
      into : (a : Address) (t : ℕ) → (Memᴰ a xs × (t < now + 300)) ⊎ HasPermission t a (v c.k).permissions → Allowed (allowed C xs (now + 300) ∷ h) (w c.k).allocation.five_tuple a t
      into a t (inl y) = inl (c.who ∙ c.mine, y.0, y.1)
      into a t (inr y) = inr (rw c.who (I.allowed→ c.k c.live a t y))

      -- an entry for the address is still there; or it is not one of these, and each for it had ended
      shown : (a : Address) → HasPermission 0 a (w c.k).permissions ⊎ (HasPermission 0 a (w c.k).permissions → ⊥)
          → Known (allowed C xs (now + 300) ∷ h) (w c.k).allocation.five_tuple a (w c.k).permissions
      shown a (inl y) = inl y
      shown a (inr gone) =
          inr
          (inr (
            (λ e m. not_now (inl (m, omega arith))),
            inl
                (record {
                  mine = c.who ∙ c.mine;
                  other = c.some.0;
                  named = c.some.1;
                  s = now;
                  until = refl;
                  ended = λ y. not_now (inr (I.allowed← c.k c.live a now (le_refl now) (rw c.who at y)));
                }),
          ))
        where
          not_now : (Memᴰ a xs × (now < now + 300)) ⊎ HasPermission now a (v c.k).permissions → ⊥
          not_now o = gone (permission_before zero-le (c.perms← (I.neat c.k c.live) a now (le_refl now) o))

      -- another client's requests are not among them
      not_theirs : (D : FiveTuple) (a : Address) → D ≢ C → AnyAllowed (allowed C xs (now + 300) ∷ h) D a → AnyAllowed h D a
      not_theirs D a apart (inl y) = absurd (apart y.0)
      not_theirs D a apart (inr y) = y

      out : (a : Address) (t : ℕ) → now ≤ t → Allowed (allowed C xs (now + 300) ∷ h) (v c.k).allocation.five_tuple a t → (Memᴰ a xs × (t < now + 300)) ⊎ HasPermission t a (v c.k).permissions
      out a t le (inl y) = inl (y.1, y.2)
      out a t le (inr y) = inr (I.allowed← c.k c.live a t le y)

      off : (i : ℕ) → i ≢ c.k → Live now (v i) → (a : Address) (t : ℕ) → now ≤ t → Allowed (allowed C xs (now + 300) ∷ h) (v i).allocation.five_tuple a t → HasPermission t a (v i).permissions
      off i ne x a t le (inl y) = absurd (other c.k c.frame c.live c.who i ne x C c.mine y.0)
      off i ne x a t le (inr y) = I.allowed← i x a t le y

      back : (D : FiveTuple) (t : ℕ) → now ≤ t → Granted h D t → (i : ℕ) × ((w i).allocation.five_tuple ≡ D) × (t < (w i).allocation.expiry)
      back D t le g = go (nat? s.0 c.k)
        where
          s : (i : ℕ) × ((v i).allocation.five_tuple ≡ D) × (t < (v i).allocation.expiry)
          s = I.granted← D t le g

          go : (s.0 ≡ c.k) ⊎ (s.0 ≢ c.k) → (i : ℕ) × ((w i).allocation.five_tuple ≡ D) × (t < (w i).allocation.expiry)
          go (inl e) = (c.k, c.who ∙ ap (λ (m : ℕ). (v m).allocation.five_tuple) (sym e) ∙ s.1, rw (c.until, ← e) s.2)
          go (inr e) = let lt : t < (v s.0).allocation.expiry = s.2 in let p = c.frame.before s.0 e (omega arith) in (s.0, rw p s.1, rw p lt)

-- any call: from the stored clock to its time, with what it counts as
pub keep : (clock now : ℕ) (v w : View) (h : List Counted) (d : Counted) → clock ≤ now → Accounts clock v h → Change now v w d → Accounts now w (d ∷ h)
keep clock now v w h nothing le I c = accounts_nothing now w h (accounts_quiet now v w h (accounts_later clock now v h le I) c)
keep clock now v w h (gave C R s n) le I c = rw c.0 (keep_allot now v w h (accounts_later clock now v h le I) C R n c.1)
keep clock now v w h (kept C s n) le I c = rw c.0 (go c.1)
  where
    go : Renew now v w C n ⊎ End now v w C n → Accounts now w (kept C now n ∷ h)
    go (inl r) = keep_renew now v w h (accounts_later clock now v h le I) C n r
    go (inr r) = keep_end now v w h (accounts_later clock now v h le I) C n r
keep clock now v w h (allowed C xs ends) le I c = rw c.0 (keep_admit now v w h (accounts_later clock now v h le I) C xs c.1)
