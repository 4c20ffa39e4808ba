-- Request 2's 'prefix tree of at most 512 nodes', and the lookup in it.
--
-- A tree is a list of numbers, three for each node, in the order of their making: its child nodes for a bit 0 and for a bit 1, and whether its bit
-- string is a listed prefix. 0 is no child: node 0 is that of the empty string, which is no other's child.
use Rattle.std.specs.Prelude.{ℕ, zero, suc, ◌+◌, ◌-◌, ◌*◌, ◌/◌, ◌%◌, ◌^◌, Bool, true, false, not, List, eqb, ltb, get_or, set, replicate, Option, None, Some}
use Rattle.choice.specs.Choice.{pick, both}
use Rattle.denied.specs.declared.tree.Tree.{Tree}

-- ---- Nodes

abbrev pub child_of : List ℕ → (node bit : ℕ) → ℕ
child_of nodes node bit = get_or nodes (3 * node + bit) 0

abbrev pub is_listed : List ℕ → (node : ℕ) → Bool
is_listed nodes node = not (eqb (get_or nodes (3 * node + 2) 0) 0)

-- a child past the nodes is no child
abbrev pub is_child : ℕ → Bool
is_child child = both (ltb 0 child) (ltb child 512)

-- bit k of an address, counted from the last
abbrev pub bit_of : (a k : ℕ) → ℕ
bit_of a k = a / 2 ^ k % 2

-- ---- The lookup: 'goes one bit down the tree at each step'

-- whether a listed prefix is met from the node down, with so many bits of the address left
unfoldable pub denied_below : List ℕ → (node a left : ℕ) → Bool
denied_below nodes node a zero = is_listed nodes node
denied_below nodes node a (suc left) =
    pick (is_listed nodes node) true
    (pick (is_child (child_of nodes node (bit_of a left))) (denied_below nodes (child_of nodes node (bit_of a left)) a left) false)

unfoldable pub denied : List ℕ → (a : ℕ) → Bool
denied nodes a = denied_below nodes 0 a 32

-- ---- The tree of a text

-- no prefix: the empty string's node alone
abbrev pub none_denied : List ℕ
none_denied = replicate 1536 0

abbrev pub tree : List ℕ → ℕ → Tree
tree nodes count = record { nodes = nodes; count = count }

abbrev pub empty_tree : Tree
empty_tree = tree none_denied 1

-- a tree that goes down from the node by so many bits of the address, those above the last `rest`: a node that is missing is made, and the last
-- one's string is listed. Where a node is missing and there are 512, it does not fit, and there is none
unfoldable pub grow : (nodes : List ℕ) (count node a rest bits : ℕ) → Option Tree
grow nodes count node a rest zero = Some (tree (set nodes (3 * node + 2) 1) count)
grow nodes count node a rest (suc bits) =
    let bit = bit_of a (rest + bits) in
    let child = child_of nodes node bit in
    pick (is_child child) (grow nodes count child a rest bits)
    (pick (ltb count 512) (grow (set nodes (3 * node + bit) count) (suc count) count a rest bits) None)

-- 'one node for each different leading bit string of a listed prefix': the tree with a prefix more
unfoldable pub with_prefix : Tree → (address length : ℕ) → Option Tree
with_prefix tree address length = grow tree.nodes tree.count 0 address (32 - length) length
