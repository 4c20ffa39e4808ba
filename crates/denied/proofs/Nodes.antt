-- The nodes of the tree of a text: one for each different leading bit string of a listed prefix; and where a line does not fit, that 513 such
-- strings are needed.
use Prim.Native.Nat.{ℕ, zero, suc, ◌+◌, ◌-◌, ◌*◌, ◌^◌, ◌≤◌, ◌<◌}
use mathlib.Core.Path.{◌≡◌, refl, sym, ◌∙◌, ap, subst}
use mathlib.Core.Logic.{◌≢◌, ◌⊎◌, inl, inr, ◌↔◌}
use mathlib.Core.Bool.{true, false≢true}
use mathlib.Core.List.Memᴰ
use mathlib.Core.List.{List, [], ◌∷◌, ◌++◌, map, append_assoc, append-nil, Memᴰ}
use native.Mathlib.Decide.{ℕ_discrete}
use native.Mathlib.Nat.{lt-suc_self, le_of_suc-le-suc, eq-or-lt_of_le}
use native.Mathlib.Omega.{arith}
use lib.Dec.{eqb, ltb, lit<}
use lib.ListN.{length, get_or, take, drop, set, replicate, length-replicate}
use lib.Seq.{get_or-set_same, get_or-set_other}
use borrow.Author.Tests.{ltb-true, ltb-false}
use Rattle.wire.proofs.Laws.{all_same}
use Rattle.choice.proofs.Laws.{chosen}
use Rattle.text.specs.Text.{hex_word_of, decimal_of}
use Rattle.std.specs.Prelude.{Option, None, Some, Result, Ok, Err, ok_or}
use Rattle.refusal.specs.declared.Refusal.{Refusal}
use Rattle.refusal.specs.declared.Refusal.TheVariants.{TimeBelowClock, TimeTooLate, ShortReply, LongDatagram, UnknownUser, NotSixtyFourSlots, NotUdp, ShortOutput, BadLine, TooManyNodes}
use Rattle.refusal.specs.Refusal.{number, number_of}
use Rattle.denied.specs.declared.prefixes.Prefix.{Prefix}
use Rattle.denied.specs.declared.tree.Tree.{Tree}
use Rattle.denied.specs.Prefixes.{Line, prefix, lines_of, line_of}
use Rattle.denied.specs.Inner.{LineFits}
use Rattle.denied.specs.Tree.{child_of, is_listed, is_child, bit_of, empty_tree, tree, grow, with_prefix}
use Rattle.denied.specs.Denied.{on_line, and_then, on_lines, prefixes_of, taken, read_denied}
use Rattle.denied.specs.Strings.{BitString, empty_string, leading, longer, Leads, Listed, string_at, StandsFor}
use Rattle.denied.proofs.Laws.{prefix_fits, word_of}
use Rattle.denied.proofs.Shape.{child_some, Follows, Shape, with_child, child_is, no_child, shape_listed, before, last, more_many, new, different_more, shape_more}
use Rattle.denied.proofs.Strings.{member_at, place_of, member_last, longer-leading, bit_small, LeadsTo, leading-none}

-- ---- Lines and their strings

-- a prefix with this fact, among lines with one more
prefix_last : (Q : ℕ → ℕ → Type 0) (lines : List Line) (a n : ℕ)
    → ((b m : ℕ) × Memᴰ (prefix b m) (lines ++ prefix a n ∷ []) × Q b m) ↔ (((b m : ℕ) × Memᴰ (prefix b m) lines × Q b m) ⊎ Q a n)
prefix_last Q lines a n = (λ p. to p.0 p.1 p.3 ((member_last lines).0 p.2), from)
  where
    to : (b m : ℕ) → Q b m → Memᴰ (prefix b m) lines ⊎ (prefix b m ≡ prefix a n) → ((b m : ℕ) × Memᴰ (prefix b m) lines × Q b m) ⊎ Q a n
    to b m q (inl x) = inl (b, m, x, q)
    to b m q (inr e) = let same : ◌≡◌ {A = Prefix} (record { address = b; length = m }) (record { address = a; length = n }) = cc in let c : b ≡ a = ap (λ (p : Prefix). p.address) same in let d : m ≡ n = ap (λ (p : Prefix). p.length) same in inr (rw (c, d) at q)

    from : ((b m : ℕ) × Memᴰ (prefix b m) lines × Q b m) ⊎ Q a n → (b m : ℕ) × Memᴰ (prefix b m) (lines ++ prefix a n ∷ []) × Q b m
    from (inl p) = (p.0, p.1, (member_last lines).1 (inl p.2), p.3)
    from (inr q) = (a, n, (member_last lines).1 (inr refl), q)

module _ (lines : List Line) (a n : ℕ) (w : BitString) where
  -- the leading strings of lines with a prefix more
  leads_more : (Leads lines w ⊎ LeadsTo a n w) ↔ Leads (lines ++ prefix a n ∷ []) w
  leads_more = (to, from)
    where
      to : Leads lines w ⊎ LeadsTo a n w → Leads (lines ++ prefix a n ∷ []) w
      to (inl (inl e)) = inl e
      to (inl (inr p)) = inr (p.0, p.1, (member_last lines).1 (inl p.2), p.3, p.4)
      to (inr p) = inr (a, n, (member_last lines).1 (inr refl), p.0, p.1)

      out : ((b m : ℕ) × Memᴰ (prefix b m) lines × LeadsTo b m w) ⊎ LeadsTo a n w → Leads lines w ⊎ LeadsTo a n w
      out (inl p) = inl (inr (p.0, p.1, p.2, p.3.0, p.3.1))
      out (inr p) = inr p

      from : Leads (lines ++ prefix a n ∷ []) w → Leads lines w ⊎ LeadsTo a n w
      from (inl e) = inl (inl e)
      from (inr p) = out ((prefix_last (λ b m. LeadsTo b m w) lines a n).0 (p.0, p.1, p.2, (p.3, p.4)))

  -- and the listed ones
  listed_more : Listed (lines ++ prefix a n ∷ []) w ↔ (Listed lines w ⊎ (w ≡ leading a n))
  listed_more = prefix_last (λ b m. w ≡ leading b m) lines a n

  -- more of the first strings of an address
  leads_wider : (m : ℕ) → n ≤ m → Leads lines w ⊎ LeadsTo a n w → Leads lines w ⊎ LeadsTo a m w
  leads_wider m h (inl x) = inl x
  leads_wider m h (inr x) = inr (omega (arith, x.0), x.1)

  -- a listed string leads
  listed_leads : Listed lines w → Leads lines w
  listed_leads p =
      let b : w.bits ≡ p.1 = ap (λ (x : BitString). x.bits) p.3 in
      inr (p.0, p.1, p.2, omega arith, p.3 ∙ ap (leading p.0) (sym b))

-- ---- A tree of lines

-- its nodes have the leading strings, one each, and of these the whole prefixes are listed
record Stands (lines : List Line) (t : Tree) (strings : List BitString) : Type 0 where
  shape : Shape t.nodes t.count strings
  leads : (w : BitString) → Memᴰ w strings ↔ Leads lines w
  listed : (k : ℕ) → k < t.count → (is_listed t.nodes k ≡ true) ↔ Listed lines (string_at strings k)

-- on the way down along an address, with so many of its bits passed
record Going (lines : List Line) (a bits : ℕ) (nodes : List ℕ) (count node : ℕ) (strings : List BitString) : Type 0 where
  shape : Shape nodes count strings
  leads : (w : BitString) → Memᴰ w strings ↔ (Leads lines w ⊎ LeadsTo a bits w)
  listed : (k : ℕ) → k < count → (is_listed nodes k ≡ true) ↔ Listed lines (string_at strings k)
  there : node < count
  here : string_at strings node ≡ leading a bits

-- 513 different strings are needed
pub record TooMany (lines : List Line) (strings : List BitString) : Type 0 where
  pub many : length strings ≡ 513
  pub different : (i j : ℕ) → i < 513 → j < 513 → string_at strings i ≡ string_at strings j → i ≡ j
  pub leads : (w : BitString) → Memᴰ w strings → Leads lines w

-- the way begins at the first node
going_start : {lines : List Line} {t : Tree} {strings : List BitString} (a : ℕ) → a < 2 ^ 32 → Stands lines t strings → Going lines a 0 t.nodes t.count 0 strings
going_start {lines} {t} {strings} a h s = record {
  shape = s.shape;
  leads = λ w. (λ x. inl ((s.leads w).0 x), from w);
  listed = s.listed;
  there = s.shape.some;
  here = s.shape.first ∙ sym (leading-none a h);
}
  where
    from : (w : BitString) → Leads lines w ⊎ LeadsTo a 0 w → Memᴰ w strings
    from w (inl x) = (s.leads w).1 x
    from w (inr x) =
        let z : w.bits ≡ 0 = omega (arith, x.0) in
        (s.leads w).1 (inl (x.1 ∙ ap (leading a) z ∙ leading-none a h))

-- where a node is listed at the end, the tree is that of lines with the prefix more
going_end : {lines : List Line} {a n : ℕ} {nodes : List ℕ} {count node : ℕ} {strings : List BitString} → Going lines a n nodes count node strings
    → Stands (lines ++ prefix a n ∷ []) (tree (set nodes (3 * node + 2) 1) count) strings
going_end {lines} {a} {n} {nodes} {count} {node} {strings} g = record {
  shape = shape_listed g.shape node g.there;
  leads = λ w. (λ x. (leads_more lines a n w).0 ((g.leads w).0 x), λ x. (g.leads w).1 ((leads_more lines a n w).1 x));
  listed = λ k h. go k h (ℕ_discrete k node);
}
  where
    other : (k : ℕ) → k < count → k ≢ node → Listed lines (string_at strings k) ⊎ (string_at strings k ≡ leading a n) → is_listed nodes k ≡ true
    other k h ne (inl x) = (g.listed k h).1 x
    other k h ne (inr e) = absurd (ne (g.shape.different k node h g.there (e ∙ sym g.here)))

    go : (k : ℕ) → k < count → Dec (k ≡ node) → (is_listed (set nodes (3 * node + 2) 1) k ≡ true) ↔ Listed (lines ++ prefix a n ∷ []) (string_at strings k)
    go k h (yes e) =
        let m = g.shape.at_most in
        let b : 3 * node + 2 < length nodes = omega (arith, g.shape.long) in
        (λ x. (listed_more lines a n (string_at strings k)).1 (inr (rw e g.here)), λ x. rw (e, get_or-set_same nodes (3 * node + 2) 1 0 b))
    go k h (no e) =
        rw (get_or-set_other nodes (3 * node + 2) (3 * k + 2) 1 0 (omega arith))
        (λ x. (listed_more lines a n (string_at strings k)).1 (inl ((g.listed k h).0 x)), λ x. other k h e ((listed_more lines a n (string_at strings k)).0 x))

-- the leading strings, where the next one is among the strings now
leads_next : (lines : List Line) (a bits : ℕ) {y : BitString} (strings : List BitString) {more : List BitString} → y ≡ leading a (bits + 1)
    → ((w : BitString) → Memᴰ w more ↔ (Memᴰ w strings ⊎ (w ≡ y)))
    → ((w : BitString) → Memᴰ w strings ↔ (Leads lines w ⊎ LeadsTo a bits w))
    → (w : BitString) → Memᴰ w more ↔ (Leads lines w ⊎ LeadsTo a (bits + 1) w)
leads_next lines a bits {y} strings {more} e m l w = (λ x. to ((m w).0 x), from)
  where
    to : Memᴰ w strings ⊎ (w ≡ y) → Leads lines w ⊎ LeadsTo a (bits + 1) w
    to (inl x) = leads_wider lines a bits w (bits + 1) (omega arith) ((l w).0 x)
    to (inr p) =
        let b : w.bits ≡ bits + 1 = ap (λ (x : BitString). x.bits) (p ∙ e) in
        inr (omega arith, p ∙ e ∙ ap (leading a) (sym b))

    from : Leads lines w ⊎ LeadsTo a (bits + 1) w → Memᴰ w more
    from (inl x) = (m w).1 (inl ((l w).1 (inl x)))
    from (inr x) = (m w).1 (go (eq-or-lt_of_le x.0))
      where
        go : (w.bits ≡ bits + 1) ⊎ (w.bits < bits + 1) → Memᴰ w strings ⊎ (w ≡ y)
        go (inl q) = inr (x.1 ∙ ap (leading a) q ∙ sym e)
        go (inr q) = inl ((l w).1 (inr (omega arith, x.1)))

-- one bit down
module _ {lines : List Line} {a bits : ℕ} {nodes : List ℕ} {count node : ℕ} {strings : List BitString} (g : Going lines a bits nodes count node strings)
    (k : ℕ) (deep : bits + suc k ≡ 32) where
  -- the string of the next node
  next : longer (string_at strings node) (bit_of a k) ≡ leading a (bits + 1)
  next = longer-leading (string_at strings node) a bits k g.here deep

  -- to a child
  going_down : 0 < child_of nodes node (bit_of a k) → Going lines a (bits + 1) nodes count (child_of nodes node (bit_of a k)) strings
  going_down some = record {
    shape = g.shape;
    leads = leads_next lines a bits strings (child.1 ∙ next) (λ w. (inl, from w)) g.leads;
    listed = g.listed;
    there = child.0;
    here = child.1 ∙ next;
  }
    where
      child : Follows count strings node (bit_of a k) (child_of nodes node (bit_of a k))
      child = g.shape.children node (bit_of a k) g.there (bit_small a k) some

      from : (w : BitString) → Memᴰ w strings ⊎ (w ≡ string_at strings (child_of nodes node (bit_of a k))) → Memᴰ w strings
      from w (inl x) = x
      from w (inr e) = Memᴰ.cast e (member_at strings empty_string (child_of nodes node (bit_of a k)) (rw g.shape.as_many child.0))

  module _ (none : child_of nodes node (bit_of a k) ≡ 0) where
    -- the leading strings with the child's more
    leads_child : (w : BitString) → Memᴰ w (with_child strings node (bit_of a k)) ↔ (Leads lines w ⊎ LeadsTo a (bits + 1) w)
    leads_child = leads_next lines a bits strings next (λ w. member_last strings) g.leads

    -- to a node that is made
    going_more : count < 512 → Going lines a (bits + 1) (set nodes (3 * node + bit_of a k) count) (suc count) count (with_child strings node (bit_of a k))
    going_more room = record {
      shape = shape_more g.shape node (bit_of a k) g.there (bit_small a k) none room;
      leads = leads_child;
      listed = λ j h. go j (eq-or-lt_of_le (le_of_suc-le-suc h));
      there = lt-suc_self count;
      here = last g.shape node (bit_of a k) ∙ next;
    }
      where
        same : (j : ℕ) → get_or (set nodes (3 * node + bit_of a k) count) (3 * j + 2) 0 ≡ get_or nodes (3 * j + 2) 0
        same j = get_or-set_other nodes (3 * node + bit_of a k) (3 * j + 2) count 0 (omega (arith, bit_small a k))

        -- the new string is not listed, since it led before else
        unlisted : Listed lines (longer (string_at strings node) (bit_of a k)) → ⊥
        unlisted x =
            let p = place_of empty_string ((g.leads (longer (string_at strings node) (bit_of a k))).1 (inl (listed_leads lines a bits (longer (string_at strings node) (bit_of a k)) x))) in
            new g.shape node (bit_of a k) g.there (bit_small a k) none p.0 (rw g.shape.as_many at p.1) p.2

        go : (j : ℕ) → (j ≡ count) ⊎ (j < count)
            → (is_listed (set nodes (3 * node + bit_of a k) count) j ≡ true) ↔ Listed lines (string_at (with_child strings node (bit_of a k)) j)
        go j (inl e) = rw (same j, g.shape.fresh (3 * j + 2) (omega arith), e, last g.shape node (bit_of a k)) (λ x. absurd (false≢true x), λ x. absurd (unlisted x))
        go j (inr h) = rw (same j, before g.shape node (bit_of a k) j h) (g.listed j h)

    -- to a node for which there is no room
    too_many : (n : ℕ) → bits + 1 ≤ n → 512 ≤ count → TooMany (lines ++ prefix a n ∷ []) (with_child strings node (bit_of a k))
    too_many n h full = record {
      many = more_many g.shape node (bit_of a k) ∙ omega (arith, g.shape.at_most);
      different = λ i j p q. different_more g.shape node (bit_of a k) g.there (bit_small a k) none i j (omega arith) (omega arith);
      leads = λ w x. (leads_more lines a n w).0 (leads_wider lines a (bits + 1) w n h ((leads_child w).0 x));
    }

-- ---- A line more

-- what a line leads to: a tree of the lines, or strings that are too many
abbrev Outcome : List Line → Option Tree → Type 0
Outcome lines (Some t) = (strings : List BitString) × Stands lines t strings
Outcome lines None = (strings : List BitString) × TooMany lines strings

-- the way down to its end
grow_is : (lines : List Line) (a n : ℕ) → n ≤ 32 → (nodes : List ℕ) (count node bits left : ℕ) (strings : List BitString) → bits + left ≡ n
    → Going lines a bits nodes count node strings → Outcome (lines ++ prefix a n ∷ []) (grow nodes count node a (32 - n) left)
unfolding grow
grow_is lines a n short nodes count node bits zero strings e g =
    let z : bits ≡ n = omega arith in
    (strings, going_end (subst (λ (b : ℕ). Going lines a b nodes count node strings) z g))
grow_is lines a n short nodes count node bits (suc left) strings e g =
    let k = 32 - n + left in
    let deep : bits + suc k ≡ 32 = omega arith in
    chosen (Outcome (lines ++ prefix a n ∷ [])) (is_child (child_of nodes node (bit_of a k)))
    (λ c. grow_is lines a n short nodes count (child_of nodes node (bit_of a k)) (bits + 1) left strings (omega arith)
    (going_down g k deep (child_some (child_of nodes node (bit_of a k)) c)))
    (λ c. let none = no_child g.shape node (bit_of a k) g.there (bit_small a k) c in
    chosen (Outcome (lines ++ prefix a n ∷ [])) (ltb count 512)
    (λ r. grow_is lines a n short (set nodes (3 * node + bit_of a k) count) (suc count) count (bits + 1) left (with_child strings node (bit_of a k)) (omega arith)
    (going_more g k deep none (ltb-true count 512 r)))
    (λ r. (with_child strings node (bit_of a k), too_many g k deep none n (omega arith) (ltb-false count 512 r))))

-- from the first node
prefix_is : {lines : List Line} {t : Tree} {strings : List BitString} → Stands lines t strings → (a n : ℕ) → LineFits (prefix a n)
    → Outcome (lines ++ prefix a n ∷ []) (with_prefix t a n)
unfolding with_prefix
prefix_is {lines} {t} {strings} s a n f = grow_is lines a n f.1 t.nodes t.count 0 0 n strings (omega arith) (going_start a f.0 s)

-- a line that is taken
line_is : {lines : List Line} {t : Tree} {strings : List BitString} → Stands lines t strings → (line : Line) → LineFits line → (u : Tree) → on_line t line ≡ Ok u
    → (more : List BitString) × Stands (lines ++ line ∷ []) u more
line_is {lines} {t} s (Some p) f u e = go (with_prefix t p.address p.length) e (prefix_is s p.address p.length f)
  where
    go : (o : Option Tree) → ok_or o TooManyNodes ≡ Ok u → Outcome (lines ++ Some p ∷ []) o → (more : List BitString) × Stands (lines ++ Some p ∷ []) u more
    go (Some v) z x = let q : v ≡ u = cc in (x.0, subst (λ (w : Tree). Stands (lines ++ Some p ∷ []) w x.0) q x.1)
    go None z x = absurd (cc)
line_is s None f u e = absurd (cc)

-- ---- The lines of a text

-- one line more, by whether it is taken
stepped : (P : Result Tree Refusal → Type 0) (one : Result Tree Refusal) {next : Tree → Result Tree Refusal} → ((u : Tree) → one ≡ Ok u → P (next u))
    → ((x : Refusal) → one ≡ Err x → P (Err x)) → P (and_then one next)
stepped P (Ok u) good bad = good u refl
stepped P (Err x) good bad = bad x refl

-- one line after another
lines_are : (before lines : List Line) (t : Tree) (strings : List BitString) → Stands before t strings → ((line : Line) → Memᴰ line lines → LineFits line)
    → (u : Tree) → on_lines t lines ≡ Ok u → (more : List BitString) × Stands (before ++ lines) u more
unfolding on_lines
lines_are before [] t strings s f u e = let q : t ≡ u = cc in (strings, rw append-nil (subst (λ (w : Tree). Stands before w strings) q s))
lines_are before (line ∷ lines) t strings s f u e =
    stepped (λ (r : Result Tree Refusal). r ≡ Ok u → (more : List BitString) × Stands (before ++ line ∷ lines) u more) (on_line t line)
    (λ v z q. let p = line_is s line (f line (Memᴰ.head refl)) v z in
    rw append_assoc at (lines_are (before ++ line ∷ []) lines v p.0 p.1 (λ x m. f x (Memᴰ.tail m)) u q))
    (λ x z q. absurd (cc)) e

-- each line fits
line_fits : (line : List ℕ) → LineFits (line_of line)
unfolding line_of
line_fits line =
    chosen LineFits (eqb (get_or line 8 0) 9) (λ e. prefix_fits (hex_word_of (take 8 line)) (decimal_of (drop 9 line)) (word_of (hex_word_of (take 8 line)) (take 8 line) refl)) (λ e. tt)

-- and all lines of a text
pub all_fit : (text : List ℕ) (line : Line) → Memᴰ line (prefixes_of text) → LineFits line
unfolding prefixes_of
all_fit text line m = go (lines_of text) m
  where
    go : (l : List (List ℕ)) → Memᴰ line (map line_of l) → LineFits line
    go [] m = absurd (Memᴰ.not-nil m)
    go (x ∷ l) (Memᴰ.head e) = subst LineFits (sym e) (line_fits x)
    go (x ∷ l) (Memᴰ.tail m) = go l m

-- ---- The tree of a text

-- no line: the empty string's node alone
none_is : (n : ℕ) → n ≡ 1536 → Stands [] (tree (replicate n 0) 1) (empty_string ∷ [])
none_is n e = record {
  shape = record {
    as_many = refl;
    some = lit< tt;
    at_most = omega arith;
    long = length-replicate n 0 ∙ e;
    fresh = λ i h. all_same {A = ℕ} 0 n i;
    first = refl;
    different = λ i j h l q. omega arith;
    children = λ k bit h l x. let z = all_same {A = ℕ} 0 n (3 * k + bit) in let y : ⊥ = omega arith in absurd y;
    parent = λ j p h. let y : ⊥ = omega arith in absurd y;
  };
  leads = λ w. (λ m. inl (Memᴰ.eq_of_singleton m), from w);
  listed = λ k h. rw (all_same {A = ℕ} 0 n (3 * k + 2)) (λ x. absurd (false≢true x), λ x. absurd (Memᴰ.not-nil x.2));
}
  where
    from : (w : BitString) → Leads [] w → Memᴰ w (empty_string ∷ [])
    from w (inl e) = Memᴰ.head e
    from w (inr p) = absurd (Memᴰ.not-nil p.2)

-- lines that fit and stop nowhere
tree_is : (lines : List Line) → ((line : Line) → Memᴰ line lines → LineFits line) → (u : Tree) → on_lines empty_tree lines ≡ Ok u → (strings : List BitString) × Stands lines u strings
tree_is lines f u e = lines_are [] lines empty_tree (empty_string ∷ []) (none_is 1536 refl) f u e

-- what a tree of lines says, in the words of the demand
stands_for : {lines : List Line} {t : Tree} {strings : List BitString} → Stands lines t strings → StandsFor lines t.nodes t.count strings
stands_for {lines} {t} {strings} s = record {
  as_many = s.shape.as_many;
  at_most = s.shape.at_most;
  first = s.shape.first;
  different = s.shape.different;
  leads = s.leads;
  children = λ k bit j h b.
      (λ x. rw x.0 at (s.shape.children k bit h b (rw x.0 x.1)), child_is s.shape k bit j h b);
  listed = s.listed;
}

-- what is taken has the number of the refusal, or 0
taken_number : (r : Result Tree Refusal) (old : List ℕ) → (taken r old).number ≡ number_of r
taken_number (Ok t) old = refl
taken_number (Err x) old = refl

-- no refusal has the number 0
number_some : (x : Refusal) → number x ≡ 0 → ⊥
number_some TimeBelowClock e = omega arith
number_some TimeTooLate e = omega arith
number_some ShortReply e = omega arith
number_some LongDatagram e = omega arith
number_some UnknownUser e = omega arith
number_some NotSixtyFourSlots e = omega arith
number_some NotUdp e = omega arith
number_some ShortOutput e = omega arith
number_some BadLine e = omega arith
number_some TooManyNodes e = omega arith

-- so a text of the number 0 has a tree
text_taken : (text old : List ℕ) → (read_denied text old).number ≡ 0 → (u : Tree) × (on_lines empty_tree (prefixes_of text) ≡ Ok u)
unfolding read_denied
text_taken text old e = go (on_lines empty_tree (prefixes_of text)) e
  where
    go : (r : Result Tree Refusal) → (taken r old).number ≡ 0 → (u : Tree) × (r ≡ Ok u)
    go (Ok u) z = (u, refl)
    go (Err x) z = absurd (number_some x z)

-- 'one node for each different leading bit string of a listed prefix'
pub nodes_are : (text old : List ℕ) → (read_denied text old).number ≡ 0
    → (strings : List BitString) × StandsFor (prefixes_of text) (read_denied text old).nodes (read_denied text old).count strings
unfolding read_denied
nodes_are text old e =
    let u = text_taken text old e in
    let p = tree_is (prefixes_of text) (all_fit text) u.0 u.1 in
    (p.0, rw u.1 (stands_for p.1))

-- ---- A text that is refused

-- the numbers that a line or a text is answered with: 0 where it is taken
abbrev pub Told : ℕ → Type 0
Told number = (number ≡ 0) ⊎ ((number ≡ 9) ⊎ (number ≡ 10))

line_told : (t : Tree) (line : Line) → Told (number_of (on_line t line))
line_told t (Some p) = go (with_prefix t p.address p.length)
  where
    go : (o : Option Tree) → Told (number_of (ok_or o TooManyNodes))
    go (Some v) = inl refl
    go None = inr (inr refl)
line_told t None = inr (inl refl)

lines_told : (t : Tree) (lines : List Line) → Told (number_of (on_lines t lines))
unfolding on_lines
lines_told t [] = inl refl
lines_told t (line ∷ lines) =
    stepped (λ (r : Result Tree Refusal). Told (number_of r)) (on_line t line) (λ u z. lines_told u lines)
    (λ x z. subst (λ (r : Result Tree Refusal). Told (number_of r)) z (line_told t line))

-- a text is taken, or refused with 9 or with 10
pub text_told : (text old : List ℕ) → Told (read_denied text old).number
unfolding read_denied
text_told text old = rw (taken_number (on_lines empty_tree (prefixes_of text)) old) (lines_told empty_tree (prefixes_of text))

-- where lines are taken, none of them is bad
lines_good : (t : Tree) (lines : List Line) (u : Tree) → on_lines t lines ≡ Ok u → Memᴰ None lines → ⊥
unfolding on_lines
lines_good t [] u e m = Memᴰ.not-nil m
lines_good t (line ∷ lines) u e m =
    stepped (λ (r : Result Tree Refusal). r ≡ Ok u → ⊥) (on_line t line) (λ v z q. go v z (lines_good v lines u q) m) (λ x z q. absurd (cc)) e
  where
    go : (v : Tree) → on_line t line ≡ Ok v → (Memᴰ None lines → ⊥) → Memᴰ None (line ∷ lines) → ⊥
    go v z rest (Memᴰ.head p) = let y : ◌≡◌ {A = Result Tree Refusal} (Err BadLine) (Ok v) = subst (λ (l : Line). on_line t l ≡ Ok v) (sym p) z in absurd (cc)
    go v z rest (Memᴰ.tail m) = rest m

-- and so in a text
pub text_good : (text old : List ℕ) → (read_denied text old).number ≡ 0 → Memᴰ None (prefixes_of text) → ⊥
text_good text old e = let u = text_taken text old e in lines_good empty_tree (prefixes_of text) u.0 u.1

-- the line that stops with this refusal: those before it are taken
record Stop (t : Tree) (lines : List Line) (refusal : Refusal) : Type 0 where
  before : List Line
  line : Line
  after : List Line
  are : lines ≡ before ++ line ∷ after
  tree : Tree
  passed : on_lines t before ≡ Ok tree
  refused : on_line tree line ≡ Err refusal

-- there is one where the lines are refused
stops : (t : Tree) (lines : List Line) (refusal : Refusal) → on_lines t lines ≡ Err refusal → Stop t lines refusal
unfolding on_lines
stops t [] refusal e = absurd (cc)
stops t (line ∷ lines) refusal e =
    stepped (λ (r : Result Tree Refusal). r ≡ Err refusal → Stop t (line ∷ lines) refusal) (on_line t line)
    (λ u z q. let p = stops u lines refusal q in
    record { before = line ∷ p.before; line = p.line; after = p.after; are = ap (λ (l : List Line). line ∷ l) p.are; tree = p.tree; passed = rw z p.passed; refused = p.refused })
    (λ x z q. record { before = []; line = line; after = lines; are = refl; tree = t; passed = refl; refused = z ∙ q }) e

-- and so in a text
text_stops : (text old : List ℕ) (n : ℕ) → (read_denied text old).number ≡ n → n ≢ 0 → (x : Refusal) × (number x ≡ n) × Stop empty_tree (prefixes_of text) x
unfolding read_denied
text_stops text old n e h = go (on_lines empty_tree (prefixes_of text)) refl e
  where
    go : (r : Result Tree Refusal) → on_lines empty_tree (prefixes_of text) ≡ r → (taken r old).number ≡ n → (x : Refusal) × (number x ≡ n) × Stop empty_tree (prefixes_of text) x
    go (Ok u) is z = absurd (h (sym z))
    go (Err x) is z = (x, z, stops empty_tree (prefixes_of text) x is)

-- the lines by what the one that stops is
stop_is : {t : Tree} {lines : List Line} {x : Refusal} (s : Stop t lines x) (line : Line) → s.line ≡ line → lines ≡ s.before ++ line ∷ s.after
stop_is s line e = s.are ∙ ap (λ (l : Line). s.before ++ l ∷ s.after) e

-- only a bad line is refused with 9
nine : (t : Tree) (line : Line) (x : Refusal) → on_line t line ≡ Err x → number x ≡ 9 → line ≡ None
nine t (Some p) x e z = go (with_prefix t p.address p.length) e
  where
    go : (o : Option Tree) → ok_or o TooManyNodes ≡ Err x → Some p ≡ None
    go (Some v) q = absurd (cc)
    go None q = let y : TooManyNodes ≡ x = cc in let w : ◌≡◌ {A = ℕ} 10 9 = ap number y ∙ z in let y : ⊥ = omega arith in absurd y
nine t None x e z = refl

-- and with 10 a prefix that needs too many strings
ten : {lines : List Line} {t : Tree} {strings : List BitString} → Stands lines t strings → (line : Line) → LineFits line → (x : Refusal) → on_line t line ≡ Err x → number x ≡ 10
    → (a n : ℕ) × (more : List BitString) × (line ≡ prefix a n) × TooMany (lines ++ prefix a n ∷ []) more
ten {lines} {t} s (Some p) f x e z = go (with_prefix t p.address p.length) e (prefix_is s p.address p.length f)
  where
    go : (o : Option Tree) → ok_or o TooManyNodes ≡ Err x → Outcome (lines ++ Some p ∷ []) o
        → (b m : ℕ) × (more : List BitString) × (Some p ≡ prefix b m) × TooMany (lines ++ prefix b m ∷ []) more
    go (Some v) q y = absurd (cc)
    go None q y = (p.address, p.length, y.0, refl, y.1)
ten s None f x e z = let y : BadLine ≡ x = cc in let w : ◌≡◌ {A = ℕ} 9 10 = ap number y ∙ z in let y : ⊥ = omega arith in absurd y

-- where 9 is answered, a line is bad and those before it are taken
pub nine_is_bad : (text old : List ℕ) → (read_denied text old).number ≡ 9
    → (before after : List Line) × (prefixes_of text ≡ before ++ None ∷ after) × (t : Tree) × (on_lines empty_tree before ≡ Ok t)
nine_is_bad text old e =
    let x = text_stops text old 9 e (omega arith) in
    let s = x.2 in
    (s.before, s.after, stop_is s None (nine s.tree s.line x.0 s.refused x.1), s.tree, s.passed)

-- where 10 is answered, the lines up to one have 513 different leading strings
pub ten_needs_more : (text old : List ℕ) → (read_denied text old).number ≡ 10
    → (before after : List Line) × (address size : ℕ) × (strings : List BitString) × (prefixes_of text ≡ before ++ prefix address size ∷ after)
    × TooMany (before ++ prefix address size ∷ []) strings
ten_needs_more text old e =
    let x = text_stops text old 10 e (omega arith) in
    let s = x.2 in
    let fits : (line : Line) → Memᴰ line (s.before ++ s.line ∷ s.after) → LineFits line = rw s.are at (all_fit text) in
    let p = tree_is s.before (λ line m. fits line (Memᴰ.append_left (s.line ∷ s.after) m)) s.tree s.passed in
    let q = ten p.1 s.line (fits s.line (Memᴰ.append_right s.before (Memᴰ.head refl))) x.0 s.refused x.1 in
    (s.before, s.after, q.0, q.1, q.2, stop_is s (prefix q.0 q.1) q.3, q.4)
