use borrow.Author.Tests.{le-leb, lt-leb}
use Rattle.choice.proofs.Laws.{lookup-none}
use Rattle.stun.specs.Kinds.{attribute_kinds, attribute_kind_of}
use Rattle.stun.proofs.kinds.AttributeKind.of.Goals as goal

pub returns-in-12 : goal.returns-in-12
unfolding attribute_kind_of
returns-in-12 c = rw c.in-12.is

pub returns-in-13 : goal.returns-in-13
unfolding attribute_kind_of
returns-in-13 c = rw c.in-13.is

pub returns-in-18 : goal.returns-in-18
unfolding attribute_kind_of
returns-in-18 c = rw c.in-18.is

pub returns-in-19 : goal.returns-in-19
unfolding attribute_kind_of
returns-in-19 c = rw c.in-19.is

pub returns-in-23 : goal.returns-in-23
unfolding attribute_kind_of
returns-in-23 c = rw c.in-23.is

pub returns-in-25 : goal.returns-in-25
unfolding attribute_kind_of
returns-in-25 c = rw c.in-25.is

pub returns-in-1 : goal.returns-in-1
unfolding attribute_kind_of
returns-in-1 c = rw c.in-1.is

pub returns-in-6 : goal.returns-in-6
unfolding attribute_kind_of
returns-in-6 c = rw c.in-6.is

pub returns-in-8 : goal.returns-in-8
unfolding attribute_kind_of
returns-in-8 c = rw c.in-8.is

pub returns-in-9 : goal.returns-in-9
unfolding attribute_kind_of
returns-in-9 c = rw c.in-9.is

pub returns-in-10 : goal.returns-in-10
unfolding attribute_kind_of
returns-in-10 c = rw c.in-10.is

pub returns-in-20 : goal.returns-in-20
unfolding attribute_kind_of
returns-in-20 c = rw c.in-20.is

pub returns-in-21 : goal.returns-in-21
unfolding attribute_kind_of
returns-in-21 c = rw c.in-21.is

pub returns-in-22 : goal.returns-in-22
unfolding attribute_kind_of
returns-in-22 c = rw c.in-22.is

pub returns-in-28 : goal.returns-in-28
unfolding attribute_kind_of
returns-in-28 c = rw c.in-28.is

pub returns-in-29 : goal.returns-in-29
unfolding attribute_kind_of
returns-in-29 c = rw c.in-29.is

pub returns-in-30 : goal.returns-in-30
unfolding attribute_kind_of
returns-in-30 c = rw c.in-30.is

pub returns-in-32 : goal.returns-in-32
unfolding attribute_kind_of
returns-in-32 c = rw c.in-32.is

pub returns-then-number-ge-COMPREHENSION_OPTIONAL : goal.returns-then-number-ge-COMPREHENSION_OPTIONAL
unfolding attribute_kind_of
returns-then-number-ge-COMPREHENSION_OPTIONAL c = rw (lookup-none _ attribute_kinds _ c.in_default.in_default-own.rest, le-leb _ _ c.if-number-ge-COMPREHENSION_OPTIONAL.true)

pub returns-else-number-ge-COMPREHENSION_OPTIONAL : goal.returns-else-number-ge-COMPREHENSION_OPTIONAL
unfolding attribute_kind_of
returns-else-number-ge-COMPREHENSION_OPTIONAL c = rw (lookup-none _ attribute_kinds _ c.in_default.in_default-own.rest, lt-leb _ _ c.if-number-ge-COMPREHENSION_OPTIONAL.false)
