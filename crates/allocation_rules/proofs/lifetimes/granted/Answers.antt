use Rattle.allocation_rules.proofs.lifetimes.granted.Goals as goal

pub returns-in-Number : goal.returns-in-Number
returns-in-Number c = rw (c.in-Number.is, ← c.clamped.ensures)

pub returns-in-WrongLength : goal.returns-in-WrongLength
returns-in-WrongLength c = rw c.in-WrongLength.is

pub returns-in-Absent : goal.returns-in-Absent
returns-in-Absent c = rw c.in-Absent.is
