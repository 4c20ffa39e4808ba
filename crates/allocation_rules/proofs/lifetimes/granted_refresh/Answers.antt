use borrow.Author.Tests.{eq-eqb, ne_eqb}
use Rattle.allocation_rules.proofs.lifetimes.granted_refresh.Goals as goal

pub returns-then-seconds-eq0 : goal.returns-then-seconds-eq0
returns-then-seconds-eq0 c = rw (c.in-Number.is, eq-eqb _ _ c.if-seconds-eq0.true)

pub returns-else-seconds-eq0 : goal.returns-else-seconds-eq0
returns-else-seconds-eq0 c = rw (c.in-Number.is, ne_eqb _ _ c.if-seconds-eq0.false, ← c.clamped.ensures)

pub returns-in-WrongLength : goal.returns-in-WrongLength
returns-in-WrongLength c = rw c.in-WrongLength.is

pub returns-in-Absent : goal.returns-in-Absent
returns-in-Absent c = rw c.in-Absent.is
