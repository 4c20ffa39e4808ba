-- Trees and the strings that their nodes stand for, whatever lines they were made of: a node more, and a node that is listed.
use Prim.Native.Nat.{ℕ, zero, suc, ◌+◌, ◌*◌, ◌≤◌, ◌<◌}
use mathlib.Core.Path.{◌≡◌, sym, ◌∙◌, ap, ap₂}
use mathlib.Core.Logic.{◌≢◌, ◌⊎◌, inl, inr}
use mathlib.Core.Bool.{true, false, false≢true}
use mathlib.Core.List.{List, [], ◌∷◌, ◌++◌}
use native.Mathlib.Decide.{ℕ_discrete}
use native.Mathlib.Nat.{zero-lt-suc, lt-suc_self, le_of_suc-le-suc, eq-or-lt_of_le}
use native.Mathlib.Numerals.{add-one}
use native.Mathlib.Omega.{arith}
use lib.Dec.{ltb}
use lib.ListN.{length, get_or, set, length-append, length-set, get_or-append}
use lib.Seq.{get_or_at, get_or-set_same, get_or-set_other}
use borrow.Author.Tests.{lt-ltb, ltb-true}
use Rattle.choice.proofs.Laws.{both_parts, both_true}
use Rattle.denied.specs.Tree.{child_of, is_child}
use Rattle.denied.specs.Strings.{BitString, empty_string, longer, string_at}
use Rattle.denied.proofs.Strings.{longer_same, longer_some}

-- ---- Trees and their strings

-- a child is a number that is not 0 and below 512
pub child_some : (c : ℕ) → is_child c ≡ true → 0 < c
child_some c e = ltb-true 0 c (both_parts (ltb 0 c) (ltb c 512) e).0

pub child_within : (c : ℕ) → 0 < c → c < 512 → is_child c ≡ true
child_within c h l = both_true (ltb 0 c) (ltb c 512) (lt-ltb 0 c h) (lt-ltb c 512 l)

-- node j has the string of node k and a bit more
abbrev pub Follows : (count : ℕ) → List BitString → (k bit j : ℕ) → Type 0
Follows count strings k bit j = (j < count) × (string_at strings j ≡ longer (string_at strings k) bit)

-- every node but the first is the child of one, with its string a bit longer, and nothing stands past them
pub record Shape (nodes : List ℕ) (count : ℕ) (strings : List BitString) : Type 0 where
  pub as_many : length strings ≡ count
  pub some : 0 < count
  pub at_most : count ≤ 512
  pub long : length nodes ≡ 1536
  pub fresh : (i : ℕ) → 3 * count ≤ i → get_or nodes i 0 ≡ 0
  pub first : string_at strings 0 ≡ empty_string
  pub different : (i j : ℕ) → i < count → j < count → string_at strings i ≡ string_at strings j → i ≡ j
  pub children : (k bit : ℕ) → k < count → bit < 2 → 0 < child_of nodes k bit → Follows count strings k bit (child_of nodes k bit)
  pub parent : (j : ℕ) → 0 < j → j < count → (k bit : ℕ) × (k < count) × (bit < 2) × (child_of nodes k bit ≡ j)

-- the strings with that of a child more
abbrev pub with_child : List BitString → (node bit : ℕ) → List BitString
with_child strings node bit = strings ++ longer (string_at strings node) bit ∷ []

module _ {nodes : List ℕ} {count : ℕ} {strings : List BitString} (shape : Shape nodes count strings) where
  -- a node with a bit more than another is its child
  pub child_is : (k bit j : ℕ) → k < count → bit < 2 → Follows count strings k bit j → (child_of nodes k bit ≡ j) × (0 < j)
  child_is k bit zero h b f = absurd (longer_some (string_at strings k) bit (sym shape.first ∙ f.1))
  child_is k bit (suc j) h b f =
      let p = shape.parent (suc j) (zero-lt-suc j) f.0 in
      let c : child_of nodes p.0 p.1 ≡ suc j = p.4 in
      let r = shape.children p.0 p.1 p.2 p.3 (rw c (zero-lt-suc j)) in
      let same = longer_same (string_at strings p.0) (string_at strings k) p.1 bit p.3 b (sym (rw c at r.1) ∙ f.1) in
      let at : p.0 ≡ k = shape.different p.0 k p.2 h same.0 in
      (ap₂ (λ (n m : ℕ). child_of nodes n m) (sym at) (sym same.1) ∙ c, zero-lt-suc j)

  -- where a child is missing, its number is 0
  pub no_child : (k bit : ℕ) → k < count → bit < 2 → is_child (child_of nodes k bit) ≡ false → child_of nodes k bit ≡ 0
  no_child k bit h b e = let z : 0 ≤ child_of nodes k bit = omega arith in go (eq-or-lt_of_le z)
    where
      go : (0 ≡ child_of nodes k bit) ⊎ (0 < child_of nodes k bit) → child_of nodes k bit ≡ 0
      go (inl z) = sym z
      go (inr p) =
          let c = (shape.children k bit h b p).0 in
          let m = shape.at_most in
          absurd (false≢true (sym e ∙ child_within (child_of nodes k bit) p (omega arith)))

  -- the tree with a node listed
  pub shape_listed : (node : ℕ) → node < count → Shape (set nodes (3 * node + 2) 1) count strings
  shape_listed node there = record {
    as_many = shape.as_many;
    some = shape.some;
    at_most = shape.at_most;
    long = length-set nodes (3 * node + 2) 1 ∙ shape.long;
    fresh = λ i h. get_or-set_other nodes (3 * node + 2) i 1 0 (omega arith) ∙ shape.fresh i h;
    first = shape.first;
    different = shape.different;
    children = λ k bit h b. rw (same k bit b) (shape.children k bit h b);
    parent = λ j p l. let q = shape.parent j p l in (q.0, q.1, q.2, q.3, same q.0 q.1 q.3 ∙ q.4);
  }
    where
      same : (k bit : ℕ) → bit < 2 → child_of (set nodes (3 * node + 2) 1) k bit ≡ child_of nodes k bit
      same k bit b = get_or-set_other nodes (3 * node + 2) (3 * k + bit) 1 0 (omega arith)

  -- the strings with a child's more: those before, and the last
  pub before : (node bit k : ℕ) → k < count → string_at (with_child strings node bit) k ≡ string_at strings k
  before node bit k h = get_or-append strings (longer (string_at strings node) bit ∷ []) empty_string k (rw shape.as_many h)

  pub last : (node bit : ℕ) → string_at (with_child strings node bit) count ≡ longer (string_at strings node) bit
  last node bit = get_or_at strings (longer (string_at strings node) bit) [] empty_string count shape.as_many

  pub more_many : (node bit : ℕ) → length (with_child strings node bit) ≡ suc count
  more_many node bit = length-append strings (longer (string_at strings node) bit ∷ []) ∙ rw shape.as_many (add-one count)

  -- a node without this child
  module _ (node bit : ℕ) (there : node < count) (small : bit < 2) (none : child_of nodes node bit ≡ 0) where
    -- no node has the child's string
    pub new : (j : ℕ) → j < count → string_at strings j ≢ longer (string_at strings node) bit
    new j h e = let p = child_is node bit j there small (h, e) in omega arith

    -- so all are different
    pub different_more : (i j : ℕ) → i < suc count → j < suc count → string_at (with_child strings node bit) i ≡ string_at (with_child strings node bit) j → i ≡ j
    different_more i j h l e = go (eq-or-lt_of_le (le_of_suc-le-suc h)) (eq-or-lt_of_le (le_of_suc-le-suc l))
      where
        go : (i ≡ count) ⊎ (i < count) → (j ≡ count) ⊎ (j < count) → i ≡ j
        go (inl p) (inl q) = p ∙ sym q
        go (inl p) (inr q) = absurd (new j q (sym (before node bit j q) ∙ sym e ∙ rw p (last node bit)))
        go (inr p) (inl q) = absurd (new i p (sym (before node bit i p) ∙ e ∙ rw q (last node bit)))
        go (inr p) (inr q) = shape.different i j p q (sym (before node bit i p) ∙ e ∙ before node bit j q)

    -- the tree with the child
    pub shape_more : count < 512 → Shape (set nodes (3 * node + bit) count) (suc count) (with_child strings node bit)
    shape_more room = record {
      as_many = more_many node bit;
      some = zero-lt-suc count;
      at_most = room;
      long = length-set nodes (3 * node + bit) count ∙ shape.long;
      fresh = λ i h. get_or-set_other nodes (3 * node + bit) i count 0 (omega arith) ∙ shape.fresh i (omega arith);
      first = before node bit 0 shape.some ∙ shape.first;
      different = different_more;
      children = λ k b h l x. children k b l x (ℕ_discrete (3 * k + b) (3 * node + bit)) (eq-or-lt_of_le (le_of_suc-le-suc h));
      parent = λ j x h. parent j x (eq-or-lt_of_le (le_of_suc-le-suc h));
    }
      where
        made : child_of (set nodes (3 * node + bit) count) node bit ≡ count
        made = get_or-set_same nodes (3 * node + bit) count 0 (omega (arith, shape.long))

        other : (k b : ℕ) → 3 * k + b ≢ 3 * node + bit → child_of (set nodes (3 * node + bit) count) k b ≡ child_of nodes k b
        other k b = get_or-set_other nodes (3 * node + bit) (3 * k + b) count 0

        old : (k b : ℕ) → b < 2 → 0 < child_of nodes k b → (k ≡ count) ⊎ (k < count) → Follows (suc count) (with_child strings node bit) k b (child_of nodes k b)
        old k b l x (inl p) = let z = shape.fresh (3 * k + b) (omega arith) in let y : ⊥ = omega arith in absurd y
        old k b l x (inr p) =
            let r = shape.children k b p l x in
            let c = r.0 in
            (omega arith, before node bit (child_of nodes k b) c ∙ r.1 ∙ ap (λ (w : BitString). longer w b) (sym (before node bit k p)))

        children : (k b : ℕ) → b < 2 → 0 < child_of (set nodes (3 * node + bit) count) k b → Dec (3 * k + b ≡ 3 * node + bit) → (k ≡ count) ⊎ (k < count)
            → Follows (suc count) (with_child strings node bit) k b (child_of (set nodes (3 * node + bit) count) k b)
        children k b l x (yes e) t =
            let p : k ≡ node = omega arith in
            let q : b ≡ bit = omega arith in
            rw (p, q, made) (lt-suc_self count, last node bit ∙ ap (λ (w : BitString). longer w bit) (sym (before node bit node there)))
        children k b l x (no e) t = rw (other k b e) (old k b l (rw (other k b e) at x) t)

        parent : (j : ℕ) → 0 < j → (j ≡ count) ⊎ (j < count) → (k b : ℕ) × (k < suc count) × (b < 2) × (child_of (set nodes (3 * node + bit) count) k b ≡ j)
        parent j x (inl e) = (node, bit, omega arith, small, made ∙ sym e)
        parent j x (inr l) =
            let p = shape.parent j x l in
            let h : p.0 < count = p.2 in
            (p.0, p.1, omega arith, p.3, other p.0 p.1 (λ e. let z : j ≡ 0 = sym p.4 ∙ ap (λ (i : ℕ). get_or nodes i 0) e ∙ none in omega arith) ∙ p.4)
