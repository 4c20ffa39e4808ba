use borrow.Author.Tests.{le-leb, lt-leb}
use Rattle.client_reader.specs.Inner.{refresh_fields, checked}
use Rattle.client_reader.proofs.responses.refresh_success.Goals as goal

pub returns-then-s-lt28 : goal.returns-then-s-lt28
unfolding refresh_fields checked
returns-then-s-lt28 c = rw (lt-leb _ _ c.if-s-lt28.true)

pub returns : goal.returns
unfolding refresh_fields
returns c = rw (le-leb _ _ c.if-s-lt28.false, ← c.transaction_id-id.ensures, ← c.at-seconds.ensures) c.compared.ensures
