-- 'Denied exactly if some listed prefix covers it': what the lookup in the tree of a text answers; and that neither the order of the lines nor
-- how often one stands there matters.
use Prim.Native.Nat.{ℕ, zero, suc, ◌+◌, ◌-◌, ◌/◌, ◌^◌, ◌≤◌, ◌<◌}
use mathlib.Core.Path.{◌≡◌, refl, sym, ◌∙◌, ap}
use mathlib.Core.Logic.Iff
use mathlib.Core.Logic.{◌⊎◌, inl, inr, ◌↔◌}
use mathlib.Core.Bool.{Bool, true, false, false≢true}
use mathlib.Core.List.Memᴰ
use mathlib.Core.List.{List, [], ◌∷◌, ◌++◌, Memᴰ}
use native.Mathlib.Nat.{eq-or-lt_of_le, le_antisymm}
use native.Mathlib.Omega.{arith}
use lib.ListN.{length}
use borrow.Author.Tests.{eq-eqb, eqb-true}
use Rattle.choice.specs.Choice.{pick, any}
use Rattle.choice.proofs.Laws.{chosen}
use Rattle.std.specs.Prelude.{None, Some}
use Rattle.denied.specs.Prefixes.{Line, prefix, covers, covered}
use Rattle.denied.specs.Inner.{LineFits}
use Rattle.denied.specs.Tree.{child_of, is_listed, is_child, bit_of, denied_below, denied}
use Rattle.denied.specs.Denied.{prefixes_of, read_denied}
use Rattle.denied.specs.Strings.{BitString, string, empty_string, leading, longer, string_at, Leads, StandsFor}
use Rattle.denied.proofs.Strings.{place_of, member_last, no_longer, fewer, longer-leading, bit_small, leading-none}
use Rattle.denied.proofs.Shape.{child_some, child_within}
use Rattle.denied.proofs.Nodes.{all_fit, nodes_are, Told, text_told, text_good, nine_is_bad, ten_needs_more}

-- two tests that hold in the same cases are one
same_test : (b c : Bool) → (b ≡ true) ↔ (c ≡ true) → b ≡ c
same_test true c e = sym (e.0 refl)
same_test false true e = e.1 refl
same_test false false e = refl

-- ---- Which addresses are covered

-- some line covers the address
abbrev Covered : List Line → ℕ → Type 0
Covered lines a = (line : Line) × Memᴰ line lines × (covers line a ≡ true)

-- that is what the test says
covered_is : (lines : List Line) (a : ℕ) → (covered lines a ≡ true) ↔ Covered lines a
unfolding covered any
covered_is [] a = (λ e. absurd (false≢true e), λ p. absurd (Memᴰ.not-nil p.1))
covered_is (line ∷ lines) a = (to (covered_is lines a).0, λ p. from (covered_is lines a).1 p.0 p.2 p.1)
  where
    to : (covered lines a ≡ true → Covered lines a) → pick (covers line a) true (covered lines a) ≡ true → Covered (line ∷ lines) a
    to rest = chosen (λ (b : Bool). b ≡ true → Covered (line ∷ lines) a) (covers line a)
        (λ c e. (line, Memᴰ.head refl, c)) (λ c e. let p = rest e in (p.0, Memᴰ.tail p.1, p.2))

    from : (Covered lines a → covered lines a ≡ true) → (x : Line) → covers x a ≡ true → Memᴰ x (line ∷ lines) → pick (covers line a) true (covered lines a) ≡ true
    from rest x c (Memᴰ.head e) = rw (ap (λ (l : Line). covers l a) (sym e) ∙ c)
    from rest x c (Memᴰ.tail m) = chosen (λ (b : Bool). b ≡ true) (covers line a) (λ d. refl) (λ d. rest (x, m, c))

-- a prefix of at least so many bits covers the address
abbrev CoveredFrom : List Line → (a bits : ℕ) → Type 0
CoveredFrom lines a bits = (address length : ℕ) × Memᴰ (prefix address length) lines × (bits ≤ length) × (address / 2 ^ (32 - length) ≡ a / 2 ^ (32 - length))

-- of any number of bits: some line does
covered_from : (lines : List Line) (a : ℕ) → CoveredFrom lines a 0 ↔ Covered lines a
covered_from lines a = (λ p. (prefix p.0 p.1, p.2, eq-eqb (p.0 / 2 ^ (32 - p.1)) (a / 2 ^ (32 - p.1)) p.4), λ p. from p.0 p.1 p.2)
  where
    from : (line : Line) → Memᴰ line lines → covers line a ≡ true → CoveredFrom lines a 0
    from (Some p) m e = (p.address, p.length, m, omega arith, eqb-true (p.address / 2 ^ (32 - p.length)) (a / 2 ^ (32 - p.length)) e)
    from None m e = absurd (false≢true e)

-- ---- The lookup

module _ {lines : List Line} {nodes : List ℕ} {count : ℕ} {strings : List BitString} (s : StandsFor lines nodes count strings)
    (fits : (line : Line) → Memᴰ line lines → LineFits line) (a : ℕ) where
  -- from the node of the address's first bits
  module _ (bits node : ℕ) (there : node < count) (here : string_at strings node ≡ leading a bits) where
    -- where the node is listed, a prefix of so many bits covers the address
    listed_covers : is_listed nodes node ≡ true → CoveredFrom lines a bits
    listed_covers e =
        let p = (s.listed node there).0 e in
        let q : leading a bits ≡ leading p.0 p.1 = sym here ∙ p.3 in
        let b : bits ≡ p.1 = ap (λ (w : BitString). w.bits) q in
        (p.0, p.1, p.2, omega arith, sym (rw b at (ap (λ (w : BitString). w.value) q)))

    -- and the other way round
    covers_listed : (p : CoveredFrom lines a bits) → bits ≡ p.1 → is_listed nodes node ≡ true
    covers_listed p e = (s.listed node there).1 (p.0, p.1, p.2, here ∙ ap (leading a) e ∙ ap (string p.1) (sym p.4))

    module _ (left : ℕ) (deep : bits + suc left ≡ 32) where
      -- the string of the next bits
      next : longer (string_at strings node) (bit_of a left) ≡ leading a (bits + 1)
      next = longer-leading (string_at strings node) a bits left here deep

      -- a child has it
      child_here : 0 < child_of nodes node (bit_of a left)
          → (child_of nodes node (bit_of a left) < count) × (string_at strings (child_of nodes node (bit_of a left)) ≡ leading a (bits + 1))
      child_here h = let p = (s.children node (bit_of a left) (child_of nodes node (bit_of a left)) there (bit_small a left)).0 (refl, h) in (p.0, p.1 ∙ next)

      -- and where a longer prefix covers the address there is one
      child_there : CoveredFrom lines a (bits + 1) → 0 < child_of nodes node (bit_of a left)
      child_there p = at (place_of empty_string ((s.leads (leading a (bits + 1))).1 (inr (p.0, p.1, p.2, p.3, ap (string (bits + 1)) (agree (fits (prefix p.0 p.1) p.2).1)))))
        where
          agree : p.1 ≤ 32 → a / 2 ^ (32 - (bits + 1)) ≡ p.0 / 2 ^ (32 - (bits + 1))
          agree f =
              let h = p.3 in
              let k : 32 - p.1 + (p.1 - (bits + 1)) ≡ 32 - (bits + 1) = omega arith in
              rw k at (fewer a p.0 (32 - p.1) (p.1 - (bits + 1)) (sym p.4))

          at : (j : ℕ) × (j < length strings) × (string_at strings j ≡ leading a (bits + 1)) → 0 < child_of nodes node (bit_of a left)
          at j = let c = (s.children node (bit_of a left) j.0 there (bit_small a left)).1 (rw s.as_many at j.1, j.2 ∙ sym next) in rw c.0 c.1

      -- the lookup from the node, by that from its child
      step_is : (rest : Bool) → (0 < child_of nodes node (bit_of a left) → (rest ≡ true) ↔ CoveredFrom lines a (bits + 1))
          → (pick (is_listed nodes node) true (pick (is_child (child_of nodes node (bit_of a left))) rest false) ≡ true) ↔ CoveredFrom lines a bits
      step_is rest below = (to, λ p. chosen (λ (b : Bool). b ≡ true) (is_listed nodes node) (λ l. refl) (λ l. from l p (eq-or-lt_of_le p.3)))
        where
          to : pick (is_listed nodes node) true (pick (is_child (child_of nodes node (bit_of a left))) rest false) ≡ true → CoveredFrom lines a bits
          to = chosen (λ (b : Bool). b ≡ true → CoveredFrom lines a bits) (is_listed nodes node) (λ l e. listed_covers l)
              (λ l. chosen (λ (b : Bool). b ≡ true → CoveredFrom lines a bits) (is_child (child_of nodes node (bit_of a left)))
              (λ c e. let p = (below (child_some (child_of nodes node (bit_of a left)) c)).0 e in
              (p.0, p.1, p.2, omega (arith, p.3), p.4))
              (λ c e. absurd (false≢true e)))

          from : is_listed nodes node ≡ false → (p : CoveredFrom lines a bits) → (bits ≡ p.1) ⊎ (bits < p.1) → pick (is_child (child_of nodes node (bit_of a left))) rest false ≡ true
          from l p (inl e) = absurd (false≢true (sym l ∙ covers_listed p e))
          from l p (inr h) =
              let q : CoveredFrom lines a (bits + 1) = (p.0, p.1, p.2, omega arith, p.4) in
              let some = child_there q in
              let c = (child_here some).0 in
              let m = s.at_most in
              rw (child_within (child_of nodes node (bit_of a left)) some (omega arith)) ((below some).1 q)

  -- the lookup from the node of the first bits finds the prefixes of as many or more
  below_is : (left bits node : ℕ) → bits + left ≡ 32 → node < count → string_at strings node ≡ leading a bits
      → (denied_below nodes node a left ≡ true) ↔ CoveredFrom lines a bits
  unfolding denied_below
  below_is zero bits node deep there here = (listed_covers bits node there here, λ p. covers_listed bits node there here p (all p (fits (prefix p.0 p.1) p.2).1 p.3))
    where
      all : (p : CoveredFrom lines a bits) → p.1 ≤ 32 → bits ≤ p.1 → bits ≡ p.1
      all p h l = omega arith
  below_is (suc left) bits node deep there here =
      step_is bits node there here left deep (denied_below nodes (child_of nodes node (bit_of a left)) a left)
      (λ some. let c = child_here bits node there here left deep some in below_is left (bits + 1) (child_of nodes node (bit_of a left)) (omega arith) c.0 c.1)

  -- and from the first node all of them
  denied_is : a < 2 ^ 32 → denied nodes a ≡ covered lines a
  unfolding denied
  denied_is h = same_test (denied_below nodes 0 a 32) (covered lines a) (Iff.trans (below_is 32 0 0 refl some (s.first ∙ sym (leading-none a h))) (Iff.trans (covered_from lines a) (Iff.symm (covered_is lines a))))
    where
      some : 0 < count
      some = let p = place_of empty_string ((s.leads empty_string).1 (inl refl)) in let q = s.as_many in omega (arith, p.1)

-- ---- The tree of a text

-- 'denied exactly if some listed prefix covers it'
pub denied_exactly : (text old : List ℕ) → (read_denied text old).number ≡ 0 → (a : ℕ) → a < 2 ^ 32 → denied (read_denied text old).nodes a ≡ covered (prefixes_of text) a
denied_exactly text old e a h = denied_is (nodes_are text old e).1 (all_fit text) a h

-- ---- The order of the lines, and how often one stands there

-- fewer lines have no other leading strings
leads_within : {lines lines' : List Line} → ((line : Line) → Memᴰ line lines → Memᴰ line lines') → (w : BitString) → Leads lines w → Leads lines' w
leads_within f w (inl e) = inl e
leads_within f w (inr p) = inr (p.0, p.1, f (prefix p.0 p.1) p.2, p.3, p.4)

-- the lines up to one are lines
front : (before after : List Line) (line last : Line) → Memᴰ line (before ++ last ∷ []) → Memᴰ line (before ++ last ∷ after)
front before after line last m = go ((member_last before).0 m)
  where
    go : Memᴰ line before ⊎ (line ≡ last) → Memᴰ line (before ++ last ∷ after)
    go (inl x) = Memᴰ.append_left (last ∷ after) x
    go (inr e) = Memᴰ.append_right before (Memᴰ.head e)

-- where each line of a text stands in another that is taken
module _ (text text' old old' : List ℕ) (within : (line : Line) → Memᴰ line (prefixes_of text') → Memᴰ line (prefixes_of text))
    (taken : (read_denied text old).number ≡ 0) where
  -- no more different strings lead in its lines than the other's tree has nodes
  strings_within : (strings : List BitString) → ((i j : ℕ) → i < length strings → j < length strings → string_at strings i ≡ string_at strings j → i ≡ j)
      → ((w : BitString) → Memᴰ w strings → Leads (prefixes_of text') w) → length strings ≤ (read_denied text old).count
  strings_within strings different leads =
      let s = nodes_are text old taken in
      rw s.1.as_many at (no_longer empty_string strings s.0 different (λ w m. (s.1.leads w).1 (leads_within within w (leads w m))))

  -- so it is taken too
  taken_too : (read_denied text' old').number ≡ 0
  taken_too = go (text_told text' old')
    where
      go : Told (read_denied text' old').number → (read_denied text' old').number ≡ 0
      go (inl e) = e
      go (inr (inl e)) =
          let b = nine_is_bad text' old' e in
          absurd (text_good text old taken (within None (rw b.2 (Memᴰ.append_right b.0 (Memᴰ.head refl)))))
      go (inr (inr e)) =
          let m = ten_needs_more text' old' e in
          let many = m.6.many in
          let few = strings_within m.4 (rw many m.6.different) (λ w x. leads_within (λ line y. rw m.5 (front m.0 m.1 line (prefix m.2 m.3) y)) w (m.6.leads w x)) in
          let most = (nodes_are text old taken).1.at_most in
          let y : ⊥ = omega arith in
          absurd y

  -- and its tree has no more nodes
  nodes_within : (read_denied text' old').count ≤ (read_denied text old).count
  nodes_within =
      let s = nodes_are text' old' taken_too in
      rw s.1.as_many at (strings_within s.0 (rw s.1.as_many s.1.different) (λ w. (s.1.leads w).0))

-- a text with the same lines as one that is taken, in any order and however often, is taken too, its tree has as many nodes, and it denies the same
-- addresses
pub order_and_repetition : (text text' old old' : List ℕ) → ((line : Line) → Memᴰ line (prefixes_of text) ↔ Memᴰ line (prefixes_of text'))
    → (read_denied text old).number ≡ 0
    → ((read_denied text' old').number ≡ 0) × ((read_denied text' old').count ≡ (read_denied text old).count)
    × ((a : ℕ) → a < 2 ^ 32 → denied (read_denied text' old').nodes a ≡ denied (read_denied text old).nodes a)
order_and_repetition text text' old old' same taken = (too, le_antisymm at_most at_least, answers)
  where
    too : (read_denied text' old').number ≡ 0
    too = taken_too text text' old old' (λ line. (same line).1) taken

    at_most : (read_denied text' old').count ≤ (read_denied text old).count
    at_most = nodes_within text text' old old' (λ line. (same line).1) taken

    at_least : (read_denied text old).count ≤ (read_denied text' old').count
    at_least = nodes_within text' text old' old (λ line. (same line).0) too

    members : (a : ℕ) → Covered (prefixes_of text') a ↔ Covered (prefixes_of text) a
    members a = (λ p. (p.0, (same p.0).1 p.1, p.2), λ p. (p.0, (same p.0).0 p.1, p.2))

    answers : (a : ℕ) → a < 2 ^ 32 → denied (read_denied text' old').nodes a ≡ denied (read_denied text old).nodes a
    answers a h =
        denied_exactly text' old' too a h
        ∙ same_test (covered (prefixes_of text') a) (covered (prefixes_of text) a) (Iff.trans (covered_is (prefixes_of text') a) (Iff.trans (members a) (Iff.symm (covered_is (prefixes_of text) a))))
        ∙ sym (denied_exactly text old taken a h)
