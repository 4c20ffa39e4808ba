-- What becomes of a text: 'Refusals: bad line 9, more nodes than 512 needed 10, the first such line deciding, both leaving the old tree'.
use Rattle.std.specs.Prelude.{ℕ, ◌≡◌, List, [], ◌∷◌, map, None, Some, Result, Ok, Err, ok_or}
use Rattle.refusal.specs.declared.Refusal.{Refusal}
use Rattle.refusal.specs.declared.Refusal.TheVariants.{BadLine, TooManyNodes}
use Rattle.refusal.specs.Refusal.{number, number_of}
use Rattle.denied.specs.declared.tree.Tree.{Tree}
use Rattle.denied.specs.Prefixes.{Line, lines_of, line_of}
use Rattle.denied.specs.Tree.{empty_tree, with_prefix}

-- the tree with a line more: a line's form is judged before its room
abbrev pub on_line : Tree → Line → Result Tree Refusal
on_line tree (Some p) = ok_or (with_prefix tree p.address p.length) TooManyNodes
on_line tree None = Err BadLine

abbrev pub and_then : Result Tree Refusal → (Tree → Result Tree Refusal) → Result Tree Refusal
and_then (Ok tree) next = next tree
and_then (Err refusal) next = Err refusal

-- 'the first such line deciding'
unfoldable pub on_lines : Tree → List Line → Result Tree Refusal
on_lines tree [] = Ok tree
on_lines tree (line ∷ lines) = and_then (on_line tree line) (λ (more : Tree). on_lines more lines)

-- the lines of a text, read
unfoldable pub prefixes_of : List ℕ → List Line
prefixes_of text = map line_of (lines_of text)

-- what became of a text: the number that it is refused with, or 0; how many nodes its tree has, 0 where it was refused; and the nodes afterwards
pub record Reading : Type 0 where
  pub number : ℕ
  pub count : ℕ
  pub nodes : List ℕ

abbrev pub reading : (number count : ℕ) → List ℕ → Reading
reading number count nodes = record { number = number; count = count; nodes = nodes }

-- 'both leaving the old tree'
abbrev pub taken : Result Tree Refusal → List ℕ → Reading
taken (Ok tree) old = reading 0 tree.count tree.nodes
taken (Err refusal) old = reading (number refusal) 0 old

unfoldable pub read_denied : (text old : List ℕ) → Reading
read_denied text old = taken (on_lines empty_tree (prefixes_of text)) old

-- how many nodes the tree has, 0 where the text was refused
abbrev pub count_of : Result ℕ Refusal → ℕ
count_of (Ok count) = count
count_of (Err refusal) = 0

-- what a text was read as, in what is given back and the nodes afterwards
pub record Gives (reading : Reading) (result : Result ℕ Refusal) (nodes : List ℕ) : Type 0 where
  pub number_is : number_of result ≡ reading.number
  pub count_is : count_of result ≡ reading.count
  pub nodes_are : nodes ≡ reading.nodes
