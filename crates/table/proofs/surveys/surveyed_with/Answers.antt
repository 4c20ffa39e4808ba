use mathlib.Core.Path.{refl, sym, ◌∙◌}
use Rattle.std.specs.Prelude.{Some}
use Rattle.slot.proofs.Laws.{or_is}
use Rattle.table.proofs.Laws.{else_none, surveyed_lapsed, surveyed_live}
use Rattle.table.proofs.surveys.surveyed_with.Goals as goal

pub returns-then-not-allocation_is_live : goal.returns-then-not-allocation_is_live
returns-then-not-allocation_is_live c = surveyed_lapsed (sym c.allocation_is_live.ensures ∙ c.if-not-allocation_is_live.true) refl refl (c.or.ensures ∙ or_is c.args.survey.free (Some c.args.i)) refl

pub returns-then-not-matches : goal.returns-then-not-matches
returns-then-not-matches c =
    surveyed_live
    (sym c.allocation_is_live.ensures ∙ c.if-not-allocation_is_live.false)
    (rw (← c.matches.ensures, c.if-not-matches.true) (else_none _))
    (rw (← c.holds_user.ensures) c.counted-held.ensures)
    refl
    c.mark-ports.ensures

pub returns : goal.returns
returns c =
    surveyed_live
    (sym c.allocation_is_live.ensures ∙ c.if-not-allocation_is_live.false)
    (rw (← c.matches.ensures, c.if-not-matches.false) (c.or-2.ensures ∙ or_is c.args.survey.own (Some c.args.i)))
    (rw (← c.holds_user.ensures) c.counted-held.ensures)
    refl
    c.mark-ports.ensures
