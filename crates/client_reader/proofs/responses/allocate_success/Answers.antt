use borrow.Author.Tests.{le-leb, lt-leb}
use Rattle.client_reader.specs.Inner.{allocate_fields, checked}
use Rattle.client_reader.proofs.responses.allocate_success.Goals as goal

pub returns-then-s-lt44 : goal.returns-then-s-lt44
unfolding allocate_fields checked
returns-then-s-lt44 c = rw (lt-leb _ _ c.if-s-lt44.true)

pub returns : goal.returns
unfolding allocate_fields
returns c =
    rw (le-leb _ _ c.if-s-lt44.false, ← c.transaction_id-id.ensures, ← c.at.ensures, ← c.at-2.ensures, ← c.at-seconds.ensures, ← c.address_at.ensures, ← c.unwrap_or-client.ensures) c.compared.ensures
