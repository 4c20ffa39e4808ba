-- Whom a peer reaches depends on few of the counted events: for C at port R, on C's own and on who was given R.
use Prim.Native.Nat.{ℕ}
use mathlib.Core.Path.{◌≡◌, refl, sym, ap, subst, ◌∙◌}
use mathlib.Core.Logic.{◌⊎◌, inl, inr}
use mathlib.Core.Bool.{Bool, true, false}
use mathlib.Core.List.{List, [], ◌∷◌, ◌++◌, Memᴰ}
use native.Mathlib.Omega.{arith}
use lib.Dec.{eqb}
use borrow.Author.Tests.{eq-eqb}
use Rattle.choice.specs.Choice.{pick}
use Rattle.address.specs.declared.Address.{Address}
use Rattle.address.specs.declared.FiveTuple.{FiveTuple}
use Rattle.address.specs.Address.{same_five_tuple}
use Rattle.address.proofs.Laws.{five_tuple_refl}
use Rattle.history.specs.Counted.{Counted, gave, kept}
use Rattle.history.specs.Statement.{FromAllocate, FromRefresh, GoesTo}
use Rattle.history.proofs.Concerns.{concerns}
use Rattle.history.proofs.Tests.{clash}

-- ---- Those of a list that pass a test
unfoldable pub only : {A : Type 0} → (A → Bool) → List A → List A
only p [] = []
only p (x ∷ l) = pick (p x) (x ∷ only p l) (only p l)

module _ {A : Type 0} (p : A → Bool) where
  only_split : (l r : List A) (x : A) → p x ≡ true → only p (l ++ x ∷ r) ≡ only p l ++ x ∷ only p r
  unfolding only
  only_split [] r x e = rw e
  only_split (y ∷ l) r x e = go (p y) (only_split l r x e)
    where
      go : (b : Bool) → only p (l ++ x ∷ r) ≡ only p l ++ x ∷ only p r
          → pick b (y ∷ only p (l ++ x ∷ r)) (only p (l ++ x ∷ r)) ≡ pick b (y ∷ only p l) (only p l) ++ x ∷ only p r
      go true q = ap (λ (z : List A). y ∷ z) q
      go false q = q

  only_in : {x : A} (l : List A) → p x ≡ true → Memᴰ x l → Memᴰ x (only p l)
  unfolding only
  only_in {x} [] e m = elim m [ ]
  only_in {x} (y ∷ l) e (Memᴰ.head q) = go (p y) refl
    where
      go : (b : Bool) → p y ≡ b → Memᴰ x (pick b (y ∷ only p l) (only p l))
      go true f = Memᴰ.head q
      go false f = clash (p y) (ap p (sym q) ∙ e) f
  only_in {x} (y ∷ l) e (Memᴰ.tail m) = go (p y) (only_in l e m)
    where
      go : (b : Bool) → Memᴰ x (only p l) → Memᴰ x (pick b (y ∷ only p l) (only p l))
      go true m = Memᴰ.tail m
      go false m = m

  only_out : {x : A} (l : List A) → Memᴰ x (only p l) → Memᴰ x l
  unfolding only
  only_out [] m = m
  only_out {x} (y ∷ l) m = go (p y) m (only_out l)
    where
      go : (b : Bool) → Memᴰ x (pick b (y ∷ only p l) (only p l)) → (Memᴰ x (only p l) → Memᴰ x l) → Memᴰ x (y ∷ l)
      go true (Memᴰ.head q) ih = Memᴰ.head q
      go true (Memᴰ.tail m) ih = Memᴰ.tail (ih m)
      go false m ih = Memᴰ.tail (ih m)

  -- where what passes is parted at x, so is the list
  record Parted (l : List A) (x : A) (f : List A) : Type 0 where
    front : List A
    back : List A
    whole : l ≡ front ++ x ∷ back
    passed : only p front ≡ f

  parted : (l f r : List A) (x : A) → only p l ≡ f ++ x ∷ r → Parted l x f
  unfolding only
  parted [] [] r x e = let z : ◌≡◌ {A = ℕ} 0 1 = cc in let y : ⊥ = omega arith in absurd y
  parted [] (z ∷ f) r x e = let z : ◌≡◌ {A = ℕ} 0 1 = cc in let y : ⊥ = omega arith in absurd y
  parted (y ∷ l) f r x e = go (p y) refl f e (parted l)
    where
      more : {f g : List A} (w : Parted l x f) → pick (p y) (y ∷ only p w.front) (only p w.front) ≡ g → Parted (y ∷ l) x g
      more w q = record { front = y ∷ w.front; back = w.back; whole = ap (λ (z : List A). y ∷ z) w.whole; passed = q }

      go : (c : Bool) → p y ≡ c → (f : List A) → pick c (y ∷ only p l) (only p l) ≡ f ++ x ∷ r
          → ((f r : List A) (x : A) → only p l ≡ f ++ x ∷ r → Parted l x f) → Parted (y ∷ l) x f
      go false c f e ih = let w = ih f r x e in more w (rw c w.passed)
      go true c [] e ih = let q : y ≡ x = cc in record { front = []; back = l; whole = ap (λ (z : A). z ∷ l) q; passed = refl }
      go true c (z ∷ f) e ih = let w = ih f r x (cc) in let q : y ≡ z = cc in let v = w.passed in more w (rw c (cc))

-- ---- The events that concern C at R
module _ (C : FiveTuple) (R : ℕ) where
  abbrev pub about : List Counted → List Counted
  about list = only (concerns C R) list

  own_gift : (P s n : ℕ) → concerns C R (gave C P s n) ≡ true
  own_gift P s n = rw (five_tuple_refl C)

  gift_of : (D : FiveTuple) (s n : ℕ) → concerns C R (gave D R s n) ≡ true
  gift_of D s n = go (same_five_tuple D C)
    where
      go : (b : Bool) → pick b true (eqb R R) ≡ true
      go true = refl
      go false = eq-eqb R R refl

  module _ {t : ℕ} where
    lifetime_to : {s n : ℕ} (since : List Counted) → FromAllocate C t s n since ⊎ FromRefresh C t since
        → FromAllocate C t s n (about since) ⊎ FromRefresh C t (about since)
    lifetime_to since (inl o) = inl (record { none_since = λ s n m. o.none_since s n (only_out (concerns C R) since m); lasts = o.lasts })
    lifetime_to since (inr f) =
        inr
        (record {
          newer = about f.newer;
          older = about f.older;
          s = f.s;
          n = f.n;
          refresh = ap about f.refresh ∙ only_split (concerns C R) f.newer f.older _ (five_tuple_refl C);
          last = λ s n m. f.last s n (only_out (concerns C R) f.newer m);
          lasts = f.lasts;
        })

    lifetime_of : {s n : ℕ} (since : List Counted) → FromAllocate C t s n (about since) ⊎ FromRefresh C t (about since)
        → FromAllocate C t s n since ⊎ FromRefresh C t since
    lifetime_of since (inl o) =
        inl (record { none_since = λ s n m. o.none_since s n (only_in (concerns C R) since (five_tuple_refl C) m); lasts = o.lasts })
    lifetime_of since (inr f) =
        let w = parted (concerns C R) since f.newer f.older (kept C f.s f.n) f.refresh in
        inr
        (record {
          newer = w.front;
          older = w.back;
          s = f.s;
          n = f.n;
          refresh = w.whole;
          last = λ s n m. f.last s n (subst (Memᴰ (kept C s n)) w.passed (only_in (concerns C R) w.front (five_tuple_refl C) m));
          lasts = f.lasts;
        })

    module _ {a : Address} where
      to_own : (list : List Counted) → GoesTo list C R a t → GoesTo (about list) C R a t
      to_own list g =
          let d = g.holder in
          let r = g.permission.request in
          record {
            holder = record {
              since = about d.since;
              before = about d.before;
              s = d.s;
              n = d.n;
              allocate = ap about d.allocate ∙ only_split (concerns C R) d.since d.before _ (own_gift R d.s d.n);
              latest = λ P s n m. d.latest P s n (only_out (concerns C R) d.since m);
              alone = λ D s n m. d.alone D s n (only_out (concerns C R) d.since m);
              lifetime = lifetime_to d.since d.lifetime;
            };
            permission = record {
              request = record { addresses = r.addresses; ends = r.ends; accepted = only_in (concerns C R) d.since (five_tuple_refl C) r.accepted; named = r.named };
              recent = g.permission.recent;
            };
          }

      of_own : (list : List Counted) → GoesTo (about list) C R a t → GoesTo list C R a t
      of_own list g = go (parted (concerns C R) list g.holder.since g.holder.before _ g.holder.allocate)
        where
          go : Parted (concerns C R) list (gave C R g.holder.s g.holder.n) g.holder.since → GoesTo list C R a t
          go w =
              let d = g.holder in
              let r = g.permission.request in
              record {
                holder = record {
                  since = w.front;
                  before = w.back;
                  s = d.s;
                  n = d.n;
                  allocate = w.whole;
                  latest = λ P s n m. d.latest P s n (subst (Memᴰ (gave C P s n)) w.passed (only_in (concerns C R) w.front (own_gift P s n) m));
                  alone = λ D s n m. d.alone D s n (subst (Memᴰ (gave D R s n)) w.passed (only_in (concerns C R) w.front (gift_of D s n) m));
                  lifetime = lifetime_of w.front (rw (← w.passed) at d.lifetime);
                };
                permission = record {
                  request = record { addresses = r.addresses; ends = r.ends; accepted = only_out (concerns C R) w.front (rw (← w.passed) at r.accepted); named = r.named };
                  recent = g.permission.recent;
                };
              }

      -- two lists that agree on them agree on whether the datagram goes to C
      pub goes_alike : (list others : List Counted) → about list ≡ about others → GoesTo list C R a t → GoesTo others C R a t
      goes_alike list others e g = of_own others (subst (λ (l : List Counted). GoesTo l C R a t) e (to_own list g))
