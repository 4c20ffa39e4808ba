use Rattle.std.proofs.Common.{sym, ap, ◌∙◌, arith}
use native.Mathlib.Nat.{pos_of_ne-zero}
use Rattle.denied.specs.Tree.{child_of}
use Rattle.denied.proofs.Laws.{one_more, child_below, below_listed, below_end, below_none, below_child}
use Rattle.denied.proofs.tree.+denied_below.Goals as goal

pub returns-then-is_listed : goal.returns-then-is_listed
returns-then-is_listed t c = below_listed _ _ _ _ (sym c.is_listed.ensures ∙ c.if-is_listed.true)

pub returns-then-left-eq0 : goal.returns-then-left-eq0
returns-then-left-eq0 t c = below_end _ _ _ (sym c.is_listed.ensures ∙ c.if-is_listed.false) c.if-left-eq0.true

pub returns-then-not-is_child : goal.returns-then-not-is_child
returns-then-not-is_child t c =
    below_none _ _ _ (sym c.is_listed.ensures ∙ c.if-is_listed.false) (one_more (pos_of_ne-zero c.if-left-eq0.false))
    (c.child_of-child.ensures ∙ ap (child_of c.args.nodes.now c.args.node) c.bit_of.ensures.0)
    (sym c.is_child.ensures ∙ c.if-not-is_child.true)

pub denied_below-requires : goal.denied_below-requires
denied_below-requires t c =
    (omega (arith, pos_of_ne-zero c.if-left-eq0.false), (child_below _ (sym c.is_child.ensures ∙ c.if-not-is_child.false), omega (arith, c.requires.1)))

pub returns : goal.returns
returns t c =
    c.denied_below.ensures
    ∙ below_child _ _ _ (sym c.is_listed.ensures ∙ c.if-is_listed.false) (one_more (pos_of_ne-zero c.if-left-eq0.false))
    (c.child_of-child.ensures ∙ ap (child_of c.args.nodes.now c.args.node) c.bit_of.ensures.0)
    (sym c.is_child.ensures ∙ c.if-not-is_child.false)
