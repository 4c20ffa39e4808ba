use borrow.Author.Tests.{le-leb, lt-leb, eq-eqb, ne_eqb}
use Rattle.client_reader.specs.Inner.{error_fields, checked}
use Rattle.client_reader.proofs.responses.error.Goals as goal

pub returns-then-s-lt28 : goal.returns-then-s-lt28
unfolding error_fields checked
returns-then-s-lt28 c = rw (lt-leb _ _ c.if-s-lt28.true)

pub returns-then-s-lt32 : goal.returns-then-s-lt32
unfolding error_fields checked
returns-then-s-lt32 c = rw (le-leb _ _ c.if-s-lt28.false, ← c.code_of-code.ensures, eq-eqb _ _ c.if-code-eq420.true, lt-leb _ _ c.if-s-lt32.true)

pub returns-then-code-eq420 : goal.returns-then-code-eq420
unfolding error_fields
returns-then-code-eq420 c = rw (le-leb _ _ c.if-s-lt28.false, ← c.code_of-code.ensures, eq-eqb _ _ c.if-code-eq420.true, le-leb _ _ c.if-s-lt32.false, ← c.at.ensures) c.unknown_attributes.ensures

pub returns : goal.returns
unfolding error_fields
returns c = rw (le-leb _ _ c.if-s-lt28.false, ← c.code_of-code.ensures, ne_eqb _ _ c.if-code-eq420.false) c.plain_error.ensures
