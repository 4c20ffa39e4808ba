-- The laws of the walk over attributes, of the reading of attributes one by one, and of what the loops over them keep.
use Prim.Native.Nat.{ℕ, zero, suc, ◌+◌, ◌-◌, ◌≤◌, ◌<◌}
use mathlib.Core.Path.{◌≡◌, refl, sym, ap, subst, ◌∙◌}
use mathlib.Core.Logic.{◌⊎◌}
use mathlib.Core.List.{List, [], ◌∷◌, ◌++◌, append_assoc, append-nil}
use mathlib.Core.Bool.{Bool, true, false, ◌&&◌, cond}
use lib.ListN.{length, take, replicate, set, length-append}
use lib.Seq.{take_at, take_all, set_at}
use lib.Dec.{leb, eqb}
use native.Mathlib.Omega.{arith}
use borrow.Author.Tests.{le-leb, leb-true, eq-eqb, ne_eqb}
use Rattle.std.proofs.Common.{Option, Some, None, MatchOption, ⊎_elim}
use Rattle.std.specs.List.{find, All}
use Rattle.std.proofs.lemmas.List.Elements.{All-nil, All-cons, All-head, All-tail}
use Rattle.choice.specs.Choice.{pick}
use Rattle.stun.specs.declared.message.Attribute.{Attribute}
use Rattle.stun.specs.declared.message.Step.{Step}
use Rattle.stun.specs.declared.message.Step.TheVariants.{One, End, Short}
use Rattle.stun.specs.declared.message.UnknownTypes.{UnknownTypes}
use Rattle.stun.specs.Message.{next_at, attribute_at, step_at, after, walk_f, walk, is_integrity, is_unknown, attributes_from, attributes, first_of, unknown_numbers, unknown_types}
use Rattle.stun.specs.Inner.{unknowns, Within}
use Rattle.stun.specs.Values.{address_at, peers_of}

-- ---- The walk: an attribute, and then the walk from the next position. Nothing else looks at the bound.
module _ {R : Type 0} (one : Attribute → R → R) (fin bad : R) where
  at_end : (s : List ℕ) (at : ℕ) (go : ℕ → R) → length s ≤ at → after one fin bad (step_at s at) go ≡ fin
  unfolding step_at
  at_end s at go h = rw (le-leb (length s) at h)

  -- only the next position counts
  agree : (s : List ℕ) (at : ℕ) (f g : ℕ → R) → f (next_at s at) ≡ g (next_at s at)
      → after one fin bad (step_at s at) f ≡ after one fin bad (step_at s at) g
  unfolding step_at
  agree s at f g e = both (leb (length s) at) (leb (at + 4) (length s) && leb (next_at s at) (length s)) _
    where
      both : (b c : Bool) (a : Attribute)
          → after one fin bad (pick b End (pick c (One a (next_at s at)) Short)) f
          ≡ after one fin bad (pick b End (pick c (One a (next_at s at)) Short)) g
      both true c a = refl
      both false true a = ap (one a) e
      both false false a = refl

  enough : (s : List ℕ) (f g at : ℕ) → length s ≤ f + at → length s ≤ g + at → walk_f one fin bad f s at ≡ walk_f one fin bad g s at
  unfolding walk_f next_at
  enough s zero zero at h k = refl
  enough s zero (suc g) at h k = sym (at_end s at (λ x. walk_f one fin bad g s x) (omega arith))
  enough s (suc f) zero at h k = at_end s at (λ x. walk_f one fin bad f s x) (omega arith)
  enough s (suc f) (suc g) at h k =
      agree s at (λ x. walk_f one fin bad f s x) (λ x. walk_f one fin bad g s x) (enough s f g (next_at s at) (omega arith) (omega arith))

  walk_step : (s : List ℕ) (at : ℕ) → walk one fin bad s at ≡ after one fin bad (step_at s at) (λ x. walk one fin bad s x)
  unfolding walk walk_f
  walk_step s at = enough s (length s) (suc (length s)) at (omega arith) (omega arith)

  -- the same, where the step is known
  pub walk_by : (s : List ℕ) (at : ℕ) {o : Step} → step_at s at ≡ o → walk one fin bad s at ≡ after one fin bad o (λ x. walk one fin bad s x)
  walk_by s at e = walk_step s at ∙ ap (λ (o : Step). after one fin bad o (λ x. walk one fin bad s x)) e

-- where no attribute that fits whole stands, each one fitted where the message ends there
pub fit_over : (s : List ℕ) (at : ℕ) → ((a : Attribute) (x : ℕ) → step_at s at ≡ One a x → ⊥) → walk (λ (a : Attribute) (rest : Bool). rest) true false s at ≡ leb (length s) at
unfolding step_at
fit_over s at none = walk_step _ _ _ s at ∙ go (leb (length s) at) (leb (at + 4) (length s) && leb (next_at s at) (length s)) none
  where
    Over : Bool → Bool → Step
    Over t u = pick t End (pick u (One (attribute_at s at) (next_at s at)) Short)

    go : (t u : Bool) → ((a : Attribute) (x : ℕ) → Over t u ≡ One a x → ⊥)
        → after (λ (a : Attribute) (rest : Bool). rest) true false (Over t u) (λ x. walk (λ (a : Attribute) (rest : Bool). rest) true false s x) ≡ t
    go true u none = refl
    go false false none = refl
    go false true none = absurd (none _ _ refl)

-- a step goes on; the attribute and its value lie within
pub step_on : (s : List ℕ) (at : ℕ) {a : Attribute} {x : ℕ} → step_at s at ≡ One a x → (at < x) × (x ≤ length s) × (a.start + a.len ≤ length s)
unfolding step_at next_at
step_on s at {a} {x} e = go (leb (length s) at) (leb (at + 4) (length s)) (leb (next_at s at) (length s)) refl e
  where
    go : (t u v : Bool) → leb (next_at s at) (length s) ≡ v → pick t End (pick (u && v) (One (attribute_at s at) (next_at s at)) Short) ≡ One a x
        → (at < x) × (x ≤ length s) × (a.start + a.len ≤ length s)
    go true u v p q = let z : ◌≡◌ {A = ℕ} 0 1 = cc in omega arith
    go false false v p q = let z : ◌≡◌ {A = ℕ} 0 1 = cc in omega arith
    go false true false p q = let z : ◌≡◌ {A = ℕ} 0 1 = cc in omega arith
    go false true true p q =
        let z : next_at s at ≡ x = cc in
        let y : attribute_at s at ≡ a = cc in
        let l = leb-true (next_at s at) (length s) p in
        (omega arith, omega arith, rw (← y) (omega arith))

-- ---- The attributes that are read, one by one
module _ (s : List ℕ) (at : ℕ) where
  pub read_end : step_at s at ≡ End → attributes_from s at ≡ []
  unfolding attributes_from
  read_end e = walk_by _ _ _ s at e

  pub read_short : step_at s at ≡ Short → attributes_from s at ≡ []
  unfolding attributes_from
  read_short e = walk_by _ _ _ s at e

  module _ {a : Attribute} {x : ℕ} (e : step_at s at ≡ One a x) where
    told : attributes_from s at ≡ pick (is_integrity a.number) [] (a ∷ attributes_from s x)
    unfolding attributes_from
    told = walk_by _ _ _ s at e

    pub read_stop : is_integrity a.number ≡ true → attributes_from s at ≡ []
    read_stop t = rw t at told

    pub read_one : is_integrity a.number ≡ false → attributes_from s at ≡ a ∷ attributes_from s x
    read_one f = rw f at told

-- nothing is read where no attribute stands, or none that fits
pub read_over : (s : List ℕ) (at : ℕ) → (step_at s at ≡ End) ⊎ (step_at s at ≡ Short) → attributes_from s at ≡ []
read_over s at e = ⊎_elim (read_end s at) (read_short s at) e

-- ---- The values of the attributes that are read lie within the message
within : (s : List ℕ) (f at : ℕ) → All (λ (a : Attribute). a.start + a.len ≤ length s) (walk_f (λ a rest. pick (is_integrity a.number) [] (a ∷ rest)) [] [] f s at)
unfolding walk_f
within s zero at = All-nil _
within s (suc f) at = go (step_at s at) refl (within s f)
  where
    In : Attribute → Type 0
    In a = a.start + a.len ≤ length s

    Rest : ℕ → List Attribute
    Rest x = walk_f (λ a rest. pick (is_integrity a.number) [] (a ∷ rest)) [] [] f s x

    kept : (b : Bool) (a : Attribute) (x : ℕ) → In a → All In (Rest x) → All In (pick b [] (a ∷ Rest x))
    kept true a x h t = All-nil In
    kept false a x h t = All-cons In a (Rest x) h t

    go : (o : Step) → step_at s at ≡ o → ((x : ℕ) → All In (Rest x)) → All In (after (λ a rest. pick (is_integrity a.number) [] (a ∷ rest)) [] [] o Rest)
    go (One a x) e ih = kept (is_integrity a.number) a x (step_on s at e).2 (ih x)
    go End e ih = All-nil In
    go Short e ih = All-nil In

pub within_from : (s : List ℕ) (at : ℕ) → Within s (attributes_from s at)
unfolding attributes_from walk
within_from s at = within s (length s) at

pub within_all : (s : List ℕ) → Within s (attributes s)
within_all s = within_from s 20

module _ (s : List ℕ) {l rest : List Attribute} {a : Attribute} (h : Within s l) (e : l ≡ a ∷ rest) where
  pub within_here : a.start + a.len ≤ length s
  within_here = All-head (λ (a : Attribute). a.start + a.len ≤ length s) a rest (subst (Within s) e h)

  pub within_on : Within s rest
  within_on = All-tail (λ (a : Attribute). a.start + a.len ≤ length s) a rest (subst (Within s) e h)

-- what is left after a step
pub within_left : (s : List ℕ) (before after : List Attribute) (r : Option Attribute)
    → MatchOption r ((before ≡ []) × (after ≡ [])) (λ a. before ≡ a ∷ after) → Within s before → Within s after
within_left s before after None e h = subst (Within s) (sym e.1) (All-nil _)
within_left s before after (Some a) e h = within_on s h e

pub first_in : (number : ℕ) (s : List ℕ) {a : Attribute} → first_of number (attributes s) ≡ Some a → a.start + a.len ≤ length s
unfolding first_of
first_in number s {a} e = go (attributes s) (within_all s) e
  where
    In : Attribute → Type 0
    In x = x.start + x.len ≤ length s

    go : (l : List Attribute) → All In l → find (λ (x : Attribute). eqb x.number number) l ≡ Some a → In a
    go [] w e = let z : ◌≡◌ {A = ℕ} 0 1 = cc in let y : ⊥ = omega arith in absurd y
    go (x ∷ rest) w e = here (eqb x.number number) e (go rest (All-tail In x rest w))
      where
        here : (b : Bool) → cond b (Some x) (find (λ (y : Attribute). eqb y.number number) rest) ≡ Some a
            → (find (λ (y : Attribute). eqb y.number number) rest ≡ Some a → In a) → In a
        here true q ih = let y : x ≡ a = cc in subst In y (All-head In x rest w)
        here false q ih = ih q

-- ---- The unknown types: those met so far, and what the rest gives
pub record Listed (s types : List ℕ) (count : ℕ) (left : List Attribute) : Type 0 where
  pub met : List ℕ
  pub size : length met ≡ count
  pub few : count ≤ 16
  pub held : types ≡ met ++ replicate (16 - count) 0
  pub rest : unknown_numbers (attributes s) ≡ met ++ unknown_numbers left

pub listed_none : (s : List ℕ) → Listed s (replicate 16 0) 0 (attributes s)
listed_none s = record { met = []; size = refl; few = omega arith; held = refl; rest = refl }

module _ {s types : List ℕ} {count : ℕ} {left : List Attribute} (i : Listed s types count left) where
  listed : unknown_types s ≡ i.met → ◌≡◌ {A = UnknownTypes} (record { types = types; count = count }) (unknowns s)
  unfolding unknowns
  listed e =
      let p : types ≡ unknown_types s ++ replicate (16 - length (unknown_types s)) 0 = rw (e, i.size) i.held in
      let q : count ≡ length (unknown_types s) = rw e (sym i.size) in
      λ j. record { types = p j; count = q j }

  pub listed_full : 16 ≤ count → ◌≡◌ {A = UnknownTypes} (record { types = types; count = count }) (unknowns s)
  unfolding unknown_types
  listed_full h = listed (ap (take 16) i.rest ∙ take_at i.met (unknown_numbers left) 16 (i.size ∙ omega (arith, i.few)))

  pub listed_end : left ≡ [] → ◌≡◌ {A = UnknownTypes} (record { types = types; count = count }) (unknowns s)
  unfolding unknown_types unknown_numbers
  listed_end e =
      let r : unknown_numbers (attributes s) ≡ i.met = i.rest ∙ ap (λ (l : List Attribute). i.met ++ unknown_numbers l) e ∙ append-nil i.met in
      listed (rw r (take_all 16 i.met (omega (arith, i.size, i.few))))

  module _ {a : Attribute} {rest : List Attribute} (e : left ≡ a ∷ rest) where
    told_unknown : unknown_numbers (attributes s) ≡ i.met ++ pick (is_unknown a.number) (a.number ∷ unknown_numbers rest) (unknown_numbers rest)
    unfolding unknown_numbers
    told_unknown = i.rest ∙ ap (λ (l : List Attribute). i.met ++ unknown_numbers l) e

    pub listed_skip : is_unknown a.number ≡ false → Listed s types count rest
    listed_skip f = record { met = i.met; size = i.size; few = i.few; held = i.held; rest = rw f at told_unknown }

    pub listed_more : is_unknown a.number ≡ true → count < 16 → Listed s (set types count a.number) (count + 1) rest
    listed_more t l = record {
      met = i.met ++ a.number ∷ [];
      size = rw length-append (omega (arith, i.size));
      few = omega arith;
      held =
          let z : 16 - count ≡ suc (16 - (count + 1)) = omega arith in
          ap (λ (l : List ℕ). set l count a.number) (i.held ∙ ap (λ (k : ℕ). i.met ++ replicate k 0) z)
          ∙ set_at i.met 0 (replicate (16 - (count + 1)) 0) a.number count i.size
          ∙ sym (append_assoc i.met (a.number ∷ []) (replicate (16 - (count + 1)) 0));
      rest = (rw t at told_unknown) ∙ sym (append_assoc i.met (a.number ∷ []) (unknown_numbers rest));
    }

-- ---- The peer addresses, one by one
module _ (s : List ℕ) {l rest : List Attribute} {a : Attribute} (e : l ≡ a ∷ rest) where
  pub peer_here : a.number ≡ 0x0012 → peers_of s l ≡ address_at s a.start a.len ∷ peers_of s rest
  unfolding peers_of
  peer_here p = rw (e, eq-eqb _ _ p)

  pub peer_skip : (a.number ≡ 0x0012 → ⊥) → peers_of s l ≡ peers_of s rest
  unfolding peers_of
  peer_skip p = rw (e, ne_eqb _ _ p)

pub no_peers : (s : List ℕ) {l : List Attribute} → l ≡ [] → peers_of s l ≡ []
unfolding peers_of
no_peers s e = rw e
