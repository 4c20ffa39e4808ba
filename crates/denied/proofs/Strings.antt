-- What the laws of the tree rest on: members of a list, and bit strings.
use Prim.Native.Nat.{ℕ, zero, suc, ◌+◌, ◌-◌, ◌*◌, ◌/◌, ◌%◌, ◌^◌, ◌≤◌, ◌<◌}
use mathlib.Core.Path.{◌≡◌, refl, sym, ◌∙◌, ap, ap₂}
use mathlib.Core.Logic.{◌≢◌, ◌⊎◌, inl, inr, ◌↔◌}
use mathlib.Core.Bool.{Bool, true, false}
use mathlib.Core.List.Memᴰ
use mathlib.Core.List.{List, [], ◌∷◌, ◌++◌, Memᴰ}
use native.Mathlib.Nat.{add-zero, add-suc, pow-suc, div-div-eq-div-mul, mod-lt, zero-lt-suc, lt-suc_self, not-suc-le-zero, le_of_suc-le-suc}
use native.Mathlib.Omega.{arith}
use lib.Dec.{eqb, lit<}
use lib.ListN.{length, get_or}
use borrow.Author.Tests.{eqb-true, eqb-false}
use Rattle.choice.specs.Choice.{pick}
use Rattle.choice.proofs.Laws.{chosen}
use Rattle.denied.specs.Tree.{bit_of}
use Rattle.denied.specs.Strings.{BitString, string, empty_string, leading, longer}

-- ---- Members

module _ {A : Type 0} where
  -- what stands at a place is a member
  pub member_at : (l : List A) (d : A) (k : ℕ) → k < length l → Memᴰ (get_or l k d) l
  member_at [] d k h = absurd (not-suc-le-zero h)
  member_at (x ∷ l) d zero h = Memᴰ.head refl
  member_at (x ∷ l) d (suc k) h = Memᴰ.tail (member_at l d k (le_of_suc-le-suc h))

  -- and a member stands at a place
  pub place_of : {x : A} {l : List A} (d : A) → Memᴰ x l → (k : ℕ) × (k < length l) × (get_or l k d ≡ x)
  place_of d (Memᴰ.head {xs = l} e) = (0, zero-lt-suc (length l), sym e)
  place_of d (Memᴰ.tail m) = let p = place_of d m in let h = p.1 in (suc p.0, omega arith, p.2)

  -- the members of a list with one more
  pub member_last : {x y : A} (l : List A) → Memᴰ x (l ++ y ∷ []) ↔ (Memᴰ x l ⊎ (x ≡ y))
  member_last {x} {y} l = (λ m. to (Memᴰ.append_cases l m), from)
    where
      to : Memᴰ x l ⊎ Memᴰ x (y ∷ []) → Memᴰ x l ⊎ (x ≡ y)
      to (inl m) = inl m
      to (inr m) = inr (Memᴰ.eq_of_singleton m)

      from : Memᴰ x l ⊎ (x ≡ y) → Memᴰ x (l ++ y ∷ [])
      from (inl m) = Memᴰ.append_left (y ∷ []) m
      from (inr e) = Memᴰ.append_right l (Memᴰ.head e)

-- no more than n things have a place below n each, no two the same
few_places : (m n : ℕ) (place : (i : ℕ) → i < m → ℕ) → ((i : ℕ) (h : i < m) → place i h < n)
    → ((i j : ℕ) (h : i < m) (l : j < m) → place i h ≡ place j l → i ≡ j) → m ≤ n
few_places zero n place below one = omega arith
few_places (suc m) zero place below one = absurd (not-suc-le-zero (below 0 (zero-lt-suc m)))
few_places (suc m) (suc n) place below one = let less = few_places m n moved moved_below moved_one in omega arith
  where
    more : {i : ℕ} → i < m → i < suc m
    more h = omega arith

    last : ℕ
    last = place m (lt-suc_self m)

    -- what has the last place goes to that of the last thing
    moved : (i : ℕ) → i < m → ℕ
    moved i h = pick (eqb (place i (more h)) n) last (place i (more h))

    moved_below : (i : ℕ) (h : i < m) → moved i h < n
    moved_below i h =
        chosen (λ (k : ℕ). k < n) (eqb (place i (more h)) n)
        (λ e. let apart : last ≢ n = (λ q. let z = one i m (more h) (lt-suc_self m) (eqb-true (place i (more h)) n e ∙ sym q) in omega arith) in
        let b = below m (lt-suc_self m) in
        omega arith)
        (λ e. let apart = eqb-false (place i (more h)) n e in let b = below i (more h) in omega arith)

    moved_one : (i j : ℕ) (h : i < m) (l : j < m) → moved i h ≡ moved j l → i ≡ j
    moved_one i j h l = go (eqb (place i (more h)) n) refl (eqb (place j (more l)) n) refl
      where
        go : (b : Bool) → eqb (place i (more h)) n ≡ b → (c : Bool) → eqb (place j (more l)) n ≡ c
            → pick b last (place i (more h)) ≡ pick c last (place j (more l)) → i ≡ j
        go true p true q e = one i j (more h) (more l) (eqb-true (place i (more h)) n p ∙ sym (eqb-true (place j (more l)) n q))
        go true p false q e = let z = one m j (lt-suc_self m) (more l) e in omega arith
        go false p true q e = let z = one i m (more h) (lt-suc_self m) e in omega arith
        go false p false q e = one i j (more h) (more l) e

-- a list without repetitions whose members are all in another is no longer
pub no_longer : {A : Type 0} (d : A) (l k : List A) → ((i j : ℕ) → i < length l → j < length l → get_or l i d ≡ get_or l j d → i ≡ j)
    → ((x : A) → Memᴰ x l → Memᴰ x k) → length l ≤ length k
no_longer {A} d l k different within =
    few_places (length l) (length k) (λ i h. (found i h).0) (λ i h. (found i h).1)
    (λ i j h t e. different i j h t (sym (found i h).2 ∙ ap (λ (p : ℕ). get_or k p d) e ∙ (found j t).2))
  where
    found : (i : ℕ) (h : i < length l) → (p : ℕ) × (p < length k) × (get_or k p d ≡ get_or l i d)
    found i h = place_of d (within (get_or l i d) (member_at l d i h))

-- ---- Bit strings

-- the bits but the last k + 1 are those but the last k, halved
halved : (a k : ℕ) → a / 2 ^ suc k ≡ a / 2 ^ k / 2
halved a k = ap (λ (x : ℕ). a / x) (pow-suc 2 k) ∙ sym (div-div-eq-div-mul a (2 ^ k) 2)

-- where the bits but the last k agree, those but some more do
pub fewer : (a b k more : ℕ) → a / 2 ^ k ≡ b / 2 ^ k → a / 2 ^ (k + more) ≡ b / 2 ^ (k + more)
fewer a b k zero e = rw add-zero e
fewer a b k (suc more) e = rw (add-suc, halved a (k + more), halved b (k + more)) (ap (λ (x : ℕ). x / 2) (fewer a b k more e))

-- the next bit of an address makes its leading string the next one
pub longer-leading : (w : BitString) (a bits k : ℕ) → w ≡ leading a bits → bits + suc k ≡ 32 → longer w (bit_of a k) ≡ leading a (bits + 1)
longer-leading w a bits k here e =
    let p : 32 - bits ≡ suc k = omega arith in
    let q : 32 - (bits + 1) ≡ k = omega arith in
    let h = halved a k in
    let v : 2 * (a / 2 ^ suc k) + a / 2 ^ k % 2 ≡ a / 2 ^ k = omega arith in
    ap (λ (x : BitString). longer x (bit_of a k)) here ∙ ap (string (bits + 1)) (rw (p, q) v)

-- a bit is 0 or 1
pub bit_small : (a k : ℕ) → bit_of a k < 2
bit_small a k = mod-lt (a / 2 ^ k) (lit< tt)

-- a longer string is of one string and one bit
pub longer_same : (v w : BitString) (b c : ℕ) → b < 2 → c < 2 → longer v b ≡ longer w c → (v ≡ w) × (b ≡ c)
longer_same v w b c h l e =
    let p : v.bits + 1 ≡ w.bits + 1 = ap (λ (x : BitString). x.bits) e in
    let q : 2 * v.value + b ≡ 2 * w.value + c = ap (λ (x : BitString). x.value) e in
    let r : v.bits ≡ w.bits = omega arith in
    let s : v.value ≡ w.value = omega arith in
    (ap₂ string r s, omega arith)

-- and is not empty
pub longer_some : (w : BitString) (b : ℕ) → empty_string ≡ longer w b → ⊥
longer_some w b e = let p : 0 ≡ w.bits + 1 = ap (λ (x : BitString). x.bits) e in omega arith

-- one of the first strings of an address
abbrev pub LeadsTo : (a bits : ℕ) → BitString → Type 0
LeadsTo a bits w = (w.bits ≤ bits) × (w ≡ leading a w.bits)

-- the first of them is the empty string
pub leading-none : (a : ℕ) → a < 2 ^ 32 → leading a 0 ≡ empty_string
leading-none a h = ap (string 0) (let z : a / 2 ^ 32 ≡ 0 = omega arith in z)
