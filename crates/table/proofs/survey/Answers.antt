-- The survey of no slots is the first; and a survey of the slots before slot i holds fewer than 2 ^ 63, since a slice of slots is shorter than that.
use Rattle.std.proofs.Common.{length, ◌<◌, ◌^◌, arith}
use Rattle.table.proofs.Laws.{held_fits, survey_next}
use Rattle.table.proofs.survey.Goals as goal

pub loop-i-init : goal.loop-i-init
loop-i-init c = c.first_survey-survey.ensures c.args.wanted c.args.user

pub surveyed_with-survey-requires : goal.surveyed_with-survey-requires
surveyed_with-survey-requires c =
    let slots = c.args.slots.now in
    let short : length slots < 2 ^ 63 = omega (arith, c.well_formed.0.1) in
    held_fits slots c.loop-i.i short c.loop-i.invariant

pub loop-i-preserved : goal.loop-i-preserved
loop-i-preserved c = survey_next c.args.slots.now c.loop-i.i _ c.loop-i-test.true c.loop-i.invariant c.surveyed_with-survey.ensures
