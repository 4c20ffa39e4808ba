-- The parts of `GoesTo`, and `Overtaken`, as readings of what was counted, one by one, the newest first; and that they say the same.
use mathlib.Core.Path.{◌≡◌, refl, sym, ◌∙◌, ap}
use mathlib.Core.Logic.{◌≢◌, ◌⊎◌, inl, inr, ◌↔◌}
use mathlib.Core.Bool.{Bool, true, false, not, true≢false, false≢true}
use mathlib.Core.List.Memᴰ
use mathlib.Core.List.{List, [], ◌∷◌, ◌++◌, Memᴰ, append_assoc}
use Prim.Native.Nat.{ℕ, ◌+◌, ◌<◌, ◌≤◌}
use native.Mathlib.Omega.{arith}
use lib.Dec.{ltb}
use borrow.Author.Tests.{ltb-true, ltb-false, lt-ltb, eqb-false, ne_eqb, not-true}
use Rattle.choice.specs.Choice.{pick}
use Rattle.choice.proofs.Laws.{both_parts, both_true}
use Rattle.address.specs.declared.Address.{Address}
use Rattle.address.specs.declared.FiveTuple.{FiveTuple}
use Rattle.address.specs.Address.{same_five_tuple}
use Rattle.address.proofs.Laws.{five_tuple_same, five_tuple_refl}
use Rattle.history.specs.Counted.{Counted, gave, kept, allowed, nothing, lasting, granted}
use Rattle.history.specs.Statement.{Lasts, FromAllocate, FromRefresh, Had, HoldsPort, GoesTo}
use Rattle.history.specs.Causes.{AllEnded, Overtaken}

-- C holds R: its latest Allocate gave R, and nobody was given R after it
abbrev pub Given : List Counted → FiveTuple → ℕ → Type 0
Given [] C R = ⊥
Given (gave D P s n ∷ h) C R = ((C ≡ D) × (R ≡ P)) ⊎ ((C ≢ D) × (R ≢ P) × Given h C R)
Given (kept D s n ∷ h) C R = Given h C R
Given (allowed D xs s ∷ h) C R = Given h C R
Given (nothing ∷ h) C R = Given h C R

-- the last lifetime granted to C is not zero and not over at t
abbrev pub Granted : List Counted → FiveTuple → ℕ → Type 0
Granted [] C t = ⊥
Granted (gave D P s n ∷ h) C t = ((C ≡ D) × Lasts t s n) ⊎ ((C ≢ D) × Granted h C t)
Granted (kept D s n ∷ h) C t = ((C ≡ D) × Lasts t s n) ⊎ ((C ≢ D) × Granted h C t)
Granted (allowed D xs s ∷ h) C t = Granted h C t
Granted (nothing ∷ h) C t = Granted h C t

-- since its latest Allocate C had a permission for a accepted, of whose end something holds
abbrev pub Accepted : (ℕ → Type 0) → List Counted → FiveTuple → Address → Type 0
Accepted holds [] C a = ⊥
Accepted holds (gave D P s n ∷ h) C a = (C ≢ D) × Accepted holds h C a
Accepted holds (kept D s n ∷ h) C a = Accepted holds h C a
Accepted holds (allowed D xs ends ∷ h) C a = ((C ≡ D) × Memᴰ a xs × holds ends) ⊎ Accepted holds h C a
Accepted holds (nothing ∷ h) C a = Accepted holds h C a

-- one that has not ended at t; one at all
abbrev pub Allowed : List Counted → FiveTuple → Address → ℕ → Type 0
Allowed h C a t = Accepted (λ ends. t < ends) h C a

abbrev pub AnyAllowed : List Counted → FiveTuple → Address → Type 0
AnyAllowed h C a = Accepted (λ ends. Unit) h C a

-- D's request for these addresses, accepted 300 seconds before it ends, is one of C when each for a had ended
pub record Overtakes (h : List Counted) (C D : FiveTuple) (a : Address) (xs : List Address) (ends : ℕ) : Type 0 where
  pub mine : C ≡ D
  pub other : Address
  pub named : Memᴰ other xs
  pub s : ℕ
  pub until : ends ≡ s + 300
  pub ended : Allowed h C a s → ⊥

-- since its latest Allocate, and after each permission for a had ended, C had another accepted, and none for a as late
abbrev pub Forgotten : List Counted → FiveTuple → Address → Type 0
Forgotten [] C a = ⊥
Forgotten (gave D P s n ∷ h) C a = (C ≢ D) × Forgotten h C a
Forgotten (kept D s n ∷ h) C a = Forgotten h C a
Forgotten (allowed D xs ends ∷ h) C a = (C ≡ D → Memᴰ a xs → ⊥) × (Overtakes h C D a xs ends ⊎ Forgotten h C a)
Forgotten (nothing ∷ h) C a = Forgotten h C a

-- ---- a port and its holder determine each other
pub given_port : (h : List Counted) (C : FiveTuple) (R P : ℕ) → Given h C R → Given h C P → R ≡ P
given_port [] C R P x y = elim x [ ]
given_port (gave D Q s n ∷ h) C R P (inl x) (inl y) = x.1 ∙ sym y.1
given_port (gave D Q s n ∷ h) C R P (inl x) (inr y) = absurd (y.0 x.0)
given_port (gave D Q s n ∷ h) C R P (inr x) (inl y) = absurd (x.0 y.0)
given_port (gave D Q s n ∷ h) C R P (inr x) (inr y) = given_port h C R P x.2 y.2
given_port (kept D s n ∷ h) C R P x y = given_port h C R P x y
given_port (allowed D xs s ∷ h) C R P x y = given_port h C R P x y
given_port (nothing ∷ h) C R P x y = given_port h C R P x y

pub given_holder : (h : List Counted) (C E : FiveTuple) (R : ℕ) → Given h C R → Given h E R → C ≡ E
given_holder [] C E R x y = elim x [ ]
given_holder (gave D Q s n ∷ h) C E R (inl x) (inl y) = x.0 ∙ sym y.0
given_holder (gave D Q s n ∷ h) C E R (inl x) (inr y) = absurd (y.1 x.1)
given_holder (gave D Q s n ∷ h) C E R (inr x) (inl y) = absurd (x.1 y.1)
given_holder (gave D Q s n ∷ h) C E R (inr x) (inr y) = given_holder h C E R x.2 y.2
given_holder (kept D s n ∷ h) C E R x y = given_holder h C E R x y
given_holder (allowed D xs s ∷ h) C E R x y = given_holder h C E R x y
given_holder (nothing ∷ h) C E R x y = given_holder h C E R x y

-- ---- the text says what the three recursive readings say
not_in : {A : Type 0} {x d : A} {l : List A} → (x ≡ d → ⊥) → (Memᴰ x l → ⊥) → Memᴰ x (d ∷ l) → ⊥
not_in p q (Memᴰ.head e) = p e
not_in p q (Memᴰ.tail m) = q m

pub data Is (h : List Counted) (C : FiveTuple) (R : ℕ) : Type 0 where
  is : (after before : List Counted) (s n : ℕ) → h ≡ after ++ gave C R s n ∷ before
      → ((P s n : ℕ) → Memᴰ (gave C P s n) after → ⊥) → ((D : FiveTuple) (s n : ℕ) → Memᴰ (gave D R s n) after → ⊥) → Is h C R

is_more_lem : (d : Counted) (h : List Counted) (C : FiveTuple) (R : ℕ) → ((P s n : ℕ) → gave C P s n ≡ d → ⊥) → ((D : FiveTuple) (s n : ℕ) → gave D R s n ≡ d → ⊥) → Is h C R → Is (d ∷ h) C R
is_more_lem d h C R p q (is after before s n e l a) =
    is (d ∷ after) before s n (cc) (λ P s n. not_in (p P s n) (l P s n)) (λ D s n. not_in (q D s n) (a D s n))

given_split : (h : List Counted) (C : FiveTuple) (R : ℕ) → Given h C R → Is h C R
given_split [] C R x = elim x [ ]
given_split (gave D P s n ∷ h) C R (inl x) = is [] h s n (cc) (λ P s n m. Memᴰ.not-nil m) (λ D s n m. Memᴰ.not-nil m)
given_split (gave D P s n ∷ h) C R (inr x) = is_more_lem (gave D P s n) h C R (λ P₁ s₁ n₁ e. x.0 (cc)) (λ D₁ s₁ n₁ e. x.1 (cc)) (given_split h C R x.2)
given_split (kept D s n ∷ h) C R x = is_more_lem (kept D s n) h C R (λ P₁ s₁ n₁ e. let z : ◌≡◌ {A = ℕ} 0 1 = cc in omega arith) (λ D₁ s₁ n₁ e. let z : ◌≡◌ {A = ℕ} 0 1 = cc in omega arith) (given_split h C R x)
given_split (allowed D xs s ∷ h) C R x = is_more_lem (allowed D xs s) h C R (λ P₁ s₁ n₁ e. let z : ◌≡◌ {A = ℕ} 0 1 = cc in omega arith) (λ D₁ s₁ n₁ e. let z : ◌≡◌ {A = ℕ} 0 1 = cc in omega arith) (given_split h C R x)
given_split (nothing ∷ h) C R x = is_more_lem nothing h C R (λ P₁ s₁ n₁ e. let z : ◌≡◌ {A = ℕ} 0 1 = cc in omega arith) (λ D₁ s₁ n₁ e. let z : ◌≡◌ {A = ℕ} 0 1 = cc in omega arith) (given_split h C R x)

once_tail : {C : FiveTuple} {t s n : ℕ} {d : Counted} {l : List Counted} → FromAllocate C t s n (d ∷ l) → FromAllocate C t s n l
once_tail o = record { none_since = λ s n m. o.none_since s n (Memᴰ.tail m); lasts = o.lasts }

last_more : {C : FiveTuple} {t s n : ℕ} (d : Counted) {l : List Counted} → ((s n : ℕ) → kept C s n ≡ d → ⊥) → FromAllocate C t s n l ⊎ FromRefresh C t l → FromAllocate C t s n (d ∷ l) ⊎ FromRefresh C t (d ∷ l)
last_more d f (inl o) = inl (record { none_since = λ s n. not_in (f s n) (o.none_since s n); lasts = o.lasts })
last_more d f (inr g) = let e = g.refresh in inr (record { newer = d ∷ g.newer; older = g.older; s = g.s; n = g.n; refresh = cc; last = λ s n. not_in (f s n) (g.last s n); lasts = g.lasts })

-- a request of which something holds, among more that was counted
had_more : (holds : ℕ → Type 0) {C : FiveTuple} {a : Address} {d : Counted} {l : List Counted} → (had : Had C a l) × holds had.ends
    → (had : Had C a (d ∷ l)) × holds had.ends
had_more holds p = (record { addresses = p.0.addresses; ends = p.0.ends; accepted = Memᴰ.tail p.0.accepted; named = p.0.named }, p.1)

-- an overtaken address stays so, where what is counted next is not a request for it
overtaken_more : {C : FiveTuple} {a : Address} (d : Counted) {l : List Counted} → ((xs : List Address) (ends : ℕ) → allowed C xs ends ≡ d → Memᴰ a xs → ⊥)
    → Overtaken C a l → Overtaken C a (d ∷ l)
overtaken_more d f o = record {
  newer = d ∷ o.newer;
  older = o.older;
  addresses = o.addresses;
  s = o.s;
  accepted = let e = o.accepted in cc;
  other = o.other;
  named = o.named;
  another = o.another;
  last = λ xs ends m named. not_in (λ e. f xs ends e named) (λ m. o.last xs ends m named) m;
  lapsed = o.lapsed;
}

-- what is in the part after C's latest Allocate
module _ (C : FiveTuple) (R s n : ℕ) (before : List Counted) where
  given_join : (after : List Counted) → ((P s n : ℕ) → Memᴰ (gave C P s n) after → ⊥) → ((D : FiveTuple) (s n : ℕ) → Memᴰ (gave D R s n) after → ⊥) → Given (after ++ gave C R s n ∷ before) C R
  given_join [] l a = inl (refl, refl)
  given_join (gave D P s₁ n₁ ∷ h) l a = inr ((λ e. l P s₁ n₁ (Memᴰ.head (cc))), (λ e. a D s₁ n₁ (Memᴰ.head (cc))), given_join h (λ P s n m. l P s n (Memᴰ.tail m)) (λ D s n m. a D s n (Memᴰ.tail m)))
  given_join (kept D s₁ n₁ ∷ h) l a = given_join h (λ P s n m. l P s n (Memᴰ.tail m)) (λ D s n m. a D s n (Memᴰ.tail m))
  given_join (allowed D xs s₁ ∷ h) l a = given_join h (λ P s n m. l P s n (Memᴰ.tail m)) (λ D s n m. a D s n (Memᴰ.tail m))
  given_join (nothing ∷ h) l a = given_join h (λ P s n m. l P s n (Memᴰ.tail m)) (λ D s n m. a D s n (Memᴰ.tail m))

  granted_once : (t : ℕ) (after : List Counted) → ((P s n : ℕ) → Memᴰ (gave C P s n) after → ⊥) → FromAllocate C t s n after → Granted (after ++ gave C R s n ∷ before) C t
  granted_once t [] l o = inl (refl, o.lasts)
  granted_once t (gave D P s₁ n₁ ∷ h) l o = inr ((λ e. l P s₁ n₁ (Memᴰ.head (cc))), granted_once t h (λ P s n m. l P s n (Memᴰ.tail m)) (once_tail o))
  granted_once t (kept D s₁ n₁ ∷ h) l o = inr ((λ e. o.none_since s₁ n₁ (Memᴰ.head (cc))), granted_once t h (λ P s n m. l P s n (Memᴰ.tail m)) (once_tail o))
  granted_once t (allowed D xs s₁ ∷ h) l o = granted_once t h (λ P s n m. l P s n (Memᴰ.tail m)) (once_tail o)
  granted_once t (nothing ∷ h) l o = granted_once t h (λ P s n m. l P s n (Memᴰ.tail m)) (once_tail o)

  granted_split : (t : ℕ) (after : List Counted) → ((P s n : ℕ) → Memᴰ (gave C P s n) after → ⊥) → Granted (after ++ gave C R s n ∷ before) C t → FromAllocate C t s n after ⊎ FromRefresh C t after
  granted_split t [] l (inl x) = inl (record { none_since = λ s n m. Memᴰ.not-nil m; lasts = x.1 })
  granted_split t [] l (inr x) = absurd (x.0 refl)
  granted_split t (gave D P s₁ n₁ ∷ h) l (inl x) = absurd (l P s₁ n₁ (Memᴰ.head (cc)))
  granted_split t (gave D P s₁ n₁ ∷ h) l (inr x) = last_more (gave D P s₁ n₁) (λ s n e. let z : ◌≡◌ {A = ℕ} 0 1 = cc in omega arith) (granted_split t h (λ P s n m. l P s n (Memᴰ.tail m)) x.1)
  granted_split t (kept D s₁ n₁ ∷ h) l (inl x) = inr (record { newer = []; older = h; s = s₁; n = n₁; refresh = cc; last = λ s n m. Memᴰ.not-nil m; lasts = x.1 })
  granted_split t (kept D s₁ n₁ ∷ h) l (inr x) = last_more (kept D s₁ n₁) (λ s n e. x.0 (cc)) (granted_split t h (λ P s n m. l P s n (Memᴰ.tail m)) x.1)
  granted_split t (allowed D xs s₁ ∷ h) l x = last_more (allowed D xs s₁) (λ s n e. let z : ◌≡◌ {A = ℕ} 0 1 = cc in omega arith) (granted_split t h (λ P s n m. l P s n (Memᴰ.tail m)) x)
  granted_split t (nothing ∷ h) l x = last_more nothing (λ s n e. let z : ◌≡◌ {A = ℕ} 0 1 = cc in omega arith) (granted_split t h (λ P s n m. l P s n (Memᴰ.tail m)) x)

  module _ (a : Address) where
    pub accepted_join : (holds : ℕ → Type 0) (after : List Counted) → ((P s n : ℕ) → Memᴰ (gave C P s n) after → ⊥) → (had : Had C a after) → holds had.ends
        → Accepted holds (after ++ gave C R s n ∷ before) C a
    accepted_join holds after l had x = at after l had.accepted
      where
        at : (after : List Counted) → ((P s n : ℕ) → Memᴰ (gave C P s n) after → ⊥) → Memᴰ (allowed C had.addresses had.ends) after
            → Accepted holds (after ++ gave C R s n ∷ before) C a
        at [] l m = absurd (Memᴰ.not-nil m)
        at (gave D P s₁ n₁ ∷ h) l (Memᴰ.head e) = let z : ◌≡◌ {A = ℕ} 0 1 = cc in absurd (omega arith)
        at (gave D P s₁ n₁ ∷ h) l (Memᴰ.tail m) = ((λ e. l P s₁ n₁ (Memᴰ.head (cc))), at h (λ P s n m. l P s n (Memᴰ.tail m)) m)
        at (kept D s₁ n₁ ∷ h) l (Memᴰ.head e) = let z : ◌≡◌ {A = ℕ} 0 1 = cc in absurd (omega arith)
        at (kept D s₁ n₁ ∷ h) l (Memᴰ.tail m) = at h (λ P s n m. l P s n (Memᴰ.tail m)) m
        at (allowed D xs s₁ ∷ h) l (Memᴰ.head e) = let q : had.addresses ≡ xs = cc in let r : had.ends ≡ s₁ = cc in inl ((cc), rw (← q) had.named, rw (← r) x)
        at (allowed D xs s₁ ∷ h) l (Memᴰ.tail m) = inr (at h (λ P s n m. l P s n (Memᴰ.tail m)) m)
        at (nothing ∷ h) l (Memᴰ.head e) = let z : ◌≡◌ {A = ℕ} 0 1 = cc in absurd (omega arith)
        at (nothing ∷ h) l (Memᴰ.tail m) = at h (λ P s n m. l P s n (Memᴰ.tail m)) m

    pub accepted_split : (holds : ℕ → Type 0) (after : List Counted) → Accepted holds (after ++ gave C R s n ∷ before) C a → (had : Had C a after) × holds had.ends
    accepted_split holds [] x = absurd (x.0 refl)
    accepted_split holds (gave D P s₁ n₁ ∷ h) x = had_more holds (accepted_split holds h x.1)
    accepted_split holds (kept D s₁ n₁ ∷ h) x = had_more holds (accepted_split holds h x)
    accepted_split holds (allowed D xs s₁ ∷ h) (inl x) = let q : allowed C xs s₁ ≡ allowed D xs s₁ = ap (λ (X : FiveTuple). allowed X xs s₁) x.0 in (record { addresses = xs; ends = s₁; accepted = Memᴰ.head q; named = x.1 }, x.2)
    accepted_split holds (allowed D xs s₁ ∷ h) (inr x) = had_more holds (accepted_split holds h x)
    accepted_split holds (nothing ∷ h) x = had_more holds (accepted_split holds h x)

    -- where none that lasts at t was accepted, each has ended at t
    pub all_ended : (t : ℕ) (after : List Counted) → ((P s n : ℕ) → Memᴰ (gave C P s n) after → ⊥) → (Allowed (after ++ gave C R s n ∷ before) C a t → ⊥) → AllEnded after C a t
    all_ended t after l none xs ends m named = go (ltb t ends) refl
      where
        go : (b : Bool) → ltb t ends ≡ b → ends ≤ t
        go true e = absurd (none (accepted_join (λ e. t < e) after l (record { addresses = xs; ends = ends; accepted = m; named = named }) (ltb-true t ends e)))
        go false e = ltb-false t ends e

    pub forgotten_split : (after : List Counted) → ((P s n : ℕ) → Memᴰ (gave C P s n) after → ⊥) → Forgotten (after ++ gave C R s n ∷ before) C a → Overtaken C a after
    forgotten_split [] l x = absurd (x.0 refl)
    forgotten_split (gave D P s₁ n₁ ∷ h) l x =
        overtaken_more (gave D P s₁ n₁) (λ xs ends e m. let z : ◌≡◌ {A = ℕ} 0 1 = cc in omega arith) (forgotten_split h (λ P s n m. l P s n (Memᴰ.tail m)) x.1)
    forgotten_split (kept D s₁ n₁ ∷ h) l x =
        overtaken_more (kept D s₁ n₁) (λ xs ends e m. let z : ◌≡◌ {A = ℕ} 0 1 = cc in omega arith) (forgotten_split h (λ P s n m. l P s n (Memᴰ.tail m)) x)
    forgotten_split (allowed D ys ends ∷ h) l x = go x.1 (forgotten_split h (λ P s n m. l P s n (Memᴰ.tail m)))
      where
        go : Overtakes (h ++ gave C R s n ∷ before) C D a ys ends ⊎ Forgotten (h ++ gave C R s n ∷ before) C a
            → (Forgotten (h ++ gave C R s n ∷ before) C a → Overtaken C a h) → Overtaken C a (allowed D ys ends ∷ h)
        go (inl o) older = record {
          newer = [];
          older = h;
          addresses = ys;
          s = o.s;
          accepted = let q = o.mine in let u = o.until in cc;
          other = o.other;
          named = o.named;
          another = λ e. x.0 o.mine (rw e at o.named);
          last = λ xs until m named. not_in (λ e. x.0 o.mine (let q : xs ≡ ys = cc in rw q at named)) Memᴰ.not-nil m;
          lapsed = all_ended o.s h (λ P s n m. l P s n (Memᴰ.tail m)) o.ended;
        }
        go (inr f) older = overtaken_more (allowed D ys ends) (λ xs until e m. x.0 (cc) (let q : xs ≡ ys = cc in rw q at m)) (older f)
    forgotten_split (nothing ∷ h) l x =
        overtaken_more nothing (λ xs ends e m. let z : ◌≡◌ {A = ℕ} 0 1 = cc in omega arith) (forgotten_split h (λ P s n m. l P s n (Memᴰ.tail m)) x)

granted_again : (C : FiveTuple) (t s n : ℕ) (rest newer : List Counted) → ((P s n : ℕ) → Memᴰ (gave C P s n) newer → ⊥) → ((s n : ℕ) → Memᴰ (kept C s n) newer → ⊥) → Lasts t s n → Granted (newer ++ kept C s n ∷ rest) C t
granted_again C t s n rest [] l k o = inl (refl, o)
granted_again C t s n rest (gave D P s₁ n₁ ∷ h) l k o = inr ((λ e. l P s₁ n₁ (Memᴰ.head (cc))), granted_again C t s n rest h (λ P s n m. l P s n (Memᴰ.tail m)) (λ s n m. k s n (Memᴰ.tail m)) o)
granted_again C t s n rest (kept D s₁ n₁ ∷ h) l k o = inr ((λ e. k s₁ n₁ (Memᴰ.head (cc))), granted_again C t s n rest h (λ P s n m. l P s n (Memᴰ.tail m)) (λ s n m. k s n (Memᴰ.tail m)) o)
granted_again C t s n rest (allowed D xs s₁ ∷ h) l k o = granted_again C t s n rest h (λ P s n m. l P s n (Memᴰ.tail m)) (λ s n m. k s n (Memᴰ.tail m)) o
granted_again C t s n rest (nothing ∷ h) l k o = granted_again C t s n rest h (λ P s n m. l P s n (Memᴰ.tail m)) (λ s n m. k s n (Memᴰ.tail m)) o

-- by the Allocate or a Refresh after it
granted_join : (C : FiveTuple) (R s n : ℕ) (before : List Counted) (t : ℕ) (after : List Counted) → ((P s n : ℕ) → Memᴰ (gave C P s n) after → ⊥)
    → FromAllocate C t s n after ⊎ FromRefresh C t after → Granted (after ++ gave C R s n ∷ before) C t
granted_join C R s n before t after l (inl o) = granted_once C R s n before t after l o
granted_join C R s n before t after l (inr g) =
    rw g.refresh
    (rw append_assoc
    (granted_again C t g.s g.n _ g.newer (λ P s n m. l P s n (rw g.refresh (Memᴰ.append_left _ m))) g.last g.lasts))

-- the two readings agree
module _ (h : List Counted) (C : FiveTuple) (R t : ℕ) where
  pub holds→ : HoldsPort h C R t → Given h C R × Granted h C t
  holds→ d = rw d.allocate (given_join C R _ _ _ _ d.latest d.alone, granted_join C R _ _ _ t _ d.latest d.lifetime)

  pub holds← : Given h C R → Granted h C t → HoldsPort h C R t
  holds← g l = go (given_split h C R g)
    where
      go : Is h C R → HoldsPort h C R t
      go (is after before s n e la al) = record { since = after; before = before; s = s; n = n; allocate = e; latest = la; alone = al; lifetime = granted_split C R s n before t after la (rw e at l) }

  -- and so do those of what was accepted since then
  module _ (d : HoldsPort h C R t) (a : Address) where
    pub had→ : (holds : ℕ → Type 0) (had : Had C a d.since) → holds had.ends → Accepted holds h C a
    had→ holds had x = rw d.allocate (accepted_join C R _ _ _ a holds _ d.latest had x)

    pub had← : (holds : ℕ → Type 0) → Accepted holds h C a → (had : Had C a d.since) × holds had.ends
    had← holds x = accepted_split C R _ _ d.before a holds _ (rw d.allocate at x)

    pub ended← : (Allowed h C a t → ⊥) → AllEnded d.since C a t
    ended← none = all_ended C R _ _ d.before a t _ d.latest (rw d.allocate at none)

    pub overtaken← : Forgotten h C a → Overtaken C a d.since
    overtaken← x = forgotten_split C R _ _ d.before a _ d.latest (rw d.allocate at x)

pub goes→ : (h : List Counted) (C : FiveTuple) (R : ℕ) (a : Address) (t : ℕ) → GoesTo h C R a t → Given h C R × Granted h C t × Allowed h C a t
goes→ h C R a t d =
    let o = holds→ h C R t d.holder in
    (o.0, o.1, had→ h C R t d.holder a (λ ends. t < ends) d.permission.request d.permission.recent)

pub goes← : (h : List Counted) (C : FiveTuple) (R : ℕ) (a : Address) (t : ℕ) → Given h C R → Granted h C t → Allowed h C a t → GoesTo h C R a t
goes← h C R a t g l p =
    let d = holds← h C R t g l in
    let r = had← h C R t d a (λ ends. t < ends) p in
    record { holder = d; permission = record { request = r.0; recent = r.1 } }

-- ---- `granted` is the same, computed

-- of one that was granted to D
granted-step : (C D : FiveTuple) (t s n : ℕ) (before : Bool) (Before : Type 0) → (before ≡ true) ↔ Before
    → (pick (same_five_tuple D C) (lasting t s n) before ≡ true) ↔ (((C ≡ D) × Lasts t s n) ⊎ ((C ≢ D) × Before))
granted-step C D t s n before Before ih = go (same_five_tuple D C) refl
  where
    own : D ≡ C → lasting t s n ≡ true → ((C ≡ D) × Lasts t s n) ⊎ ((C ≢ D) × Before)
    own q e = let r = both_parts _ _ e in inl (sym q, record { not_zero = eqb-false n 0 (not-true _ r.0); not_over = ltb-true t (s + n) r.1 })

    other : same_five_tuple D C ≡ false → C ≢ D
    other f q = absurd (true≢false (sym (five_tuple_refl C) ∙ rw (← q) at f))

    go : (b : Bool) → same_five_tuple D C ≡ b → (pick b (lasting t s n) before ≡ true) ↔ (((C ≡ D) × Lasts t s n) ⊎ ((C ≢ D) × Before))
    go true q = (own (five_tuple_same D C q), back)
      where
        back : ((C ≡ D) × Lasts t s n) ⊎ ((C ≢ D) × Before) → lasting t s n ≡ true
        back (inl x) = both_true _ _ (ap not (ne_eqb n 0 x.1.not_zero)) (lt-ltb t (s + n) x.1.not_over)
        back (inr x) = absurd (x.0 (sym (five_tuple_same D C q)))
    go false q = (λ e. inr (other q, ih.0 e), back)
      where
        back : ((C ≡ D) × Lasts t s n) ⊎ ((C ≢ D) × Before) → before ≡ true
        back (inl x) = absurd (other q x.0)
        back (inr x) = ih.1 x.1

pub granted_is : (h : List Counted) (C : FiveTuple) (t : ℕ) → (granted h C t ≡ true) ↔ Granted h C t
unfolding granted
granted_is [] C t = (λ e. false≢true e, λ x. absurd x)
granted_is (gave D P s n ∷ h) C t = granted-step C D t s n (granted h C t) (Granted h C t) (granted_is h C t)
granted_is (kept D s n ∷ h) C t = granted-step C D t s n (granted h C t) (Granted h C t) (granted_is h C t)
granted_is (allowed D xs ends ∷ h) C t = granted_is h C t
granted_is (nothing ∷ h) C t = granted_is h C t

-- `granted` says what `GoesTo` says of C's lifetime
pub granted_says : (past since before : List Counted) (C : FiveTuple) (R s n t : ℕ) → past ≡ since ++ gave C R s n ∷ before
    → ((P s n : ℕ) → Memᴰ (gave C P s n) since → ⊥) → (granted past C t ≡ true) ↔ (FromAllocate C t s n since ⊎ FromRefresh C t since)
granted_says past since before C R s n t e latest =
    let g = granted_is past C t in
    (λ x. granted_split C R s n before t since latest (rw e at (g.0 x)), λ x. g.1 (rw e (granted_join C R s n before t since latest x)))
