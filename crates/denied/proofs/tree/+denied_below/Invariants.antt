use Rattle.denied.proofs.tree.+denied_below.Given as goal

-- the number of bits left falls
abbrev pub decreases-denied_below : goal.decreases-denied_below
decreases-denied_below l = l.left
