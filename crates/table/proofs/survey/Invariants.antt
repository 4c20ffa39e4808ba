-- The loop keeps a survey of the first i slots.
use Rattle.std.proofs.Common.{take}
use Rattle.table.specs.Inner.{Surveyed}
use Rattle.table.proofs.survey.Given as goal

abbrev pub invariant-loop-i : goal.invariant-loop-i
invariant-loop-i l = Surveyed (take l.i l.slots) l.wanted l.user l.survey
