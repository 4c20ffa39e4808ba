-- The laws that the proofs of the functions cite: of a line, of one step of the lookup and of the tree's growth, and of the lines that are left.
use Prim.Native.Nat.{ℕ, zero, suc, ◌+◌, ◌-◌, ◌*◌, ◌<◌, ◌≤◌}
use mathlib.Core.Path.{◌≡◌, refl, sym, ap, ◌∙◌}
use mathlib.Core.Bool.{Bool, true, false}
use mathlib.Core.List.{List, [], ◌∷◌, map}
use native.Mathlib.Omega.{arith}
use lib.Dec.{eqb}
use lib.ListN.{length, get_or, set, take, drop, drop_of_length-le, get_or-eq_default}
use lib.Seq.{drop-cons, drop-drop}
use borrow.Author.Rules.{part_to_end}
use borrow.Author.Tests.{lt-ltb, le-ltb, ltb-true, leb-true, eq-eqb, ne_eqb}
use Rattle.text.specs.Scan.{index_of}
use Rattle.choice.specs.Choice.{pick}
use Rattle.choice.proofs.Laws.{chosen, both_parts}
use Rattle.std.specs.Prelude.{Option, None, Some, Result, Ok, Err}
use Rattle.refusal.specs.declared.Refusal.{Refusal}
use Rattle.text.specs.Text.{hex_word_of, decimal_of}
use Rattle.text.proofs.Laws.{hex_word_only}
use Rattle.denied.specs.declared.tree.Tree.{Tree}
use Rattle.denied.specs.Prefixes.{prefix, started_by, lines_of, is_prefix, prefix_from, line_of}
use Rattle.denied.specs.Inner.{WordOf, LineFits}
use Rattle.denied.specs.Denied.{on_line, and_then, on_lines, prefixes_of, read_denied, Gives}
use Rattle.denied.specs.Tree.{bit_of, child_of, is_listed, is_child, denied_below, tree, empty_tree, grow}

pub one_more : {n : ℕ} → 0 < n → n ≡ suc (n - 1)
one_more {n} h = omega arith

-- ---- A line
pub prefix_short : (address length : ℕ) → is_prefix address length ≡ true → length ≤ 32
unfolding is_prefix
prefix_short address length e = leb-true length 32 (both_parts _ _ e).0

pub prefix_fits : (address length : Option ℕ) → WordOf address → LineFits (prefix_from address length)
prefix_fits (Some address) (Some length) w = chosen LineFits (is_prefix address length) (λ e. (w, prefix_short address length e)) (λ e. tt)
prefix_fits (Some address) None w = tt
prefix_fits None length w = tt

-- eight hex digits are a word
pub word_of : (read : Option ℕ) (l : List ℕ) → read ≡ hex_word_of l → WordOf read
word_of (Some n) l e = (hex_word_only n l (sym e)).0
word_of None l e = tt

pub short_line : (line : List ℕ) → length line < 9 → None ≡ line_of line
unfolding line_of
short_line line h = rw (get_or-eq_default line 0 {n = 8} (omega arith))

pub no_tab : (line : List ℕ) → (get_or line 8 0 ≡ 9 → ⊥) → None ≡ line_of line
unfolding line_of
no_tab line n = rw (ne_eqb _ _ n)

-- a line with its tab, by what was read of its two fields
module _ (line : List ℕ) (tab : get_or line 8 0 ≡ 9) {first : Option ℕ} (a : first ≡ hex_word_of (take 8 line)) where
  tab_line : line_of line ≡ prefix_from first (decimal_of (drop 9 line))
  unfolding line_of
  tab_line = rw (eq-eqb _ _ tab, a)

  pub no_address : first ≡ None → None ≡ line_of line
  no_address e = sym (tab_line ∙ rw e)

  module _ {address : ℕ} (f : first ≡ Some address) {last : Option ℕ} (n : last ≡ decimal_of (take (length line - 9) (drop 9 line))) where
    whole_line : line_of line ≡ prefix_from (Some address) last
    whole_line = tab_line ∙ rw (f, n, part_to_end line 9)

    pub no_length : last ≡ None → None ≡ line_of line
    no_length e = sym (whole_line ∙ rw e)

    module _ {size : ℕ} (e : last ≡ Some size) {good : Bool} (g : good ≡ is_prefix address size) where
      pub bits_left : good ≡ false → None ≡ line_of line
      bits_left t = sym (whole_line ∙ rw (e, ← g, t))

      pub whole_prefix : good ≡ true → prefix address size ≡ line_of line
      whole_prefix t = sym (whole_line ∙ rw (e, ← g, t))

-- ---- A child is a node
pub child_below : (child : ℕ) → is_child child ≡ true → child < 512
child_below child e = ltb-true child 512 (both_parts _ _ e).1

-- ---- One step of the lookup
module _ (nodes : List ℕ) (node a : ℕ) where
  pub below_listed : (left : ℕ) → is_listed nodes node ≡ true → true ≡ denied_below nodes node a left
  unfolding denied_below
  below_listed zero e = sym e
  below_listed (suc left) e = rw e

  module _ (e : is_listed nodes node ≡ false) where
    pub below_end : {left : ℕ} → left ≡ 0 → false ≡ denied_below nodes node a left
    unfolding denied_below
    below_end {left} z = rw z (sym e)

    module _ {left less child : ℕ} (l : left ≡ suc less) (c : child ≡ child_of nodes node (bit_of a less)) where
      pub below_none : is_child child ≡ false → false ≡ denied_below nodes node a left
      unfolding denied_below
      below_none n = rw (l, e, ← c, n)

      pub below_child : is_child child ≡ true → denied_below nodes child a less ≡ denied_below nodes node a left
      unfolding denied_below
      below_child y = rw (l, e, ← c, y)

-- ---- One step of the growth: what is left to do makes the whole tree
pub record Growing (answer : Option Tree) (nodes : List ℕ) (count node a rest bits : ℕ) : Type 0 where
  pub is : answer ≡ grow nodes count node a rest bits
  pub low : node < 512
  pub few : rest + bits ≤ 32

module _ {answer : Option Tree} {nodes : List ℕ} {count node a rest bits : ℕ} (g : Growing answer nodes count node a rest bits) where
  pub grow_end : bits ≡ 0 → Some (tree (set nodes (3 * node + 2) 1) count) ≡ answer
  unfolding grow
  grow_end e = sym (rw e at g.is)

  module _ {less bit child : ℕ} (l : bits ≡ suc less) (b : bit ≡ bit_of a (rest + less)) (c : child ≡ child_of nodes node bit) where
    pub grow_child : is_child child ≡ true → Growing answer nodes count child a rest less
    unfolding grow
    grow_child y = record { is = rw (l, ← b, ← c, y) at g.is; low = child_below child y; few = omega (arith, g.few) }

    pub grow_new : is_child child ≡ false → count < 512 → Growing answer (set nodes (3 * node + bit) count) (count + 1) count a rest less
    unfolding grow
    grow_new n h =
        let more : count + 1 ≡ suc count = omega arith in
        record { is = rw (l, ← b, ← c, n, lt-ltb _ _ h, ← more) at g.is; low = h; few = omega (arith, g.few) }

    pub grow_full : is_child child ≡ false → 512 ≤ count → None ≡ answer
    unfolding grow
    grow_full n h = sym (rw (l, ← b, ← c, n, le-ltb _ _ h) at g.is)

-- ---- The lines that are left

-- the first line goes up to the first newline
first_line : (c : ℕ) (s : List ℕ)
    → lines_of (c ∷ s) ≡ take (index_of 10 (c ∷ s)) (c ∷ s) ∷ lines_of (drop (suc (index_of 10 (c ∷ s))) (c ∷ s))
unfolding lines_of index_of
first_line c [] = go (eqb c 10)
  where
    go : (b : Bool) → pick b ([] ∷ []) ((c ∷ []) ∷ []) ≡ take (pick b 0 1) (c ∷ []) ∷ lines_of (drop (suc (pick b 0 1)) (c ∷ []))
    go true = refl
    go false = refl
first_line c (d ∷ s) = go (eqb c 10) (first_line d s)
  where
    l : List ℕ
    l = d ∷ s

    go : (b : Bool) → lines_of l ≡ take (index_of 10 l) l ∷ lines_of (drop (suc (index_of 10 l)) l)
        → pick b ([] ∷ lines_of l) (started_by c (lines_of l)) ≡ take (pick b 0 (suc (index_of 10 l))) (c ∷ l) ∷ lines_of (drop (suc (pick b 0 (suc (index_of 10 l)))) (c ∷ l))
    go true e = refl
    go false e = ap (started_by c) e

-- and the rest begins behind it
pub next_line : (text : List ℕ) {start end : ℕ} → start < length text → end ≡ start + index_of 10 (drop start text)
    → lines_of (drop start text) ≡ take (end - start) (drop start text) ∷ lines_of (drop (end + 1) text)
next_line text {start} {end} h e =
    let cons = drop-cons text start 0 h in
    let size : end - start ≡ index_of 10 (drop start text) = omega arith in
    let behind : start + suc (index_of 10 (drop start text)) ≡ end + 1 = omega arith in
    rw (size, ← behind, ← drop-drop (suc (index_of 10 (drop start text))) start text) (rw (← cons) at (first_line (get_or text start 0) (drop (suc start) text)))

pub record Left (answer : Result Tree Refusal) (text : List ℕ) (tree : Tree) (start : ℕ) : Type 0 where
  pub is : answer ≡ on_lines tree (map line_of (lines_of (drop start text)))

pub all_left : (text : List ℕ) → Left (on_lines empty_tree (prefixes_of text)) text empty_tree 0
unfolding prefixes_of
all_left text = record { is = refl }

module _ {answer : Result Tree Refusal} {text : List ℕ} {tree : Tree} {start : ℕ} (left : Left answer text tree start) where
  pub none_left : length text ≤ start → answer ≡ Ok tree
  unfolding on_lines lines_of
  none_left h = rw (drop_of_length-le text h) at left.is

  module _ {end : ℕ} {one : Result Tree Refusal} (h : start < length text) (e : end ≡ start + index_of 10 (drop start text))
      (o : one ≡ on_line tree (line_of (take (end - start) (drop start text)))) where
    told : answer ≡ and_then one (λ (more : Tree). on_lines more (map line_of (lines_of (drop (end + 1) text))))
    unfolding on_lines
    told = rw (next_line text h e, ← o) at left.is

    pub line_taken : {more : Tree} → one ≡ Ok more → Left answer text more (end + 1)
    line_taken z = record { is = rw z at told }

    pub line_refused : {refusal : Refusal} → one ≡ Err refusal → answer ≡ Err refusal
    line_refused n = rw n at told

-- what is given back, once it is known what the text is
pub gives_refused : (text : List ℕ) {old : List ℕ} {refusal : Refusal} → on_lines empty_tree (prefixes_of text) ≡ Err refusal → Gives (read_denied text old) (Err refusal) old
unfolding read_denied
gives_refused text e = record { number_is = rw e; count_is = rw e; nodes_are = rw e }

pub gives_taken : (text old : List ℕ) {t : Tree} → on_lines empty_tree (prefixes_of text) ≡ Ok t → Gives (read_denied text old) (Ok t.count) t.nodes
unfolding read_denied
gives_taken text old e = record { number_is = rw e; count_is = rw e; nodes_are = rw e }
