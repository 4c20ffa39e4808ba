use borrow.Author.Tests.{le-leb, lt-leb}
use Rattle.client_reader.specs.Inner.{fields_of, checked}
use Rattle.client_reader.specs.Reader.{message_in}
use Rattle.client_reader.proofs.Laws.{exact_as}
use Rattle.client_reader.proofs.read_message.Goals as goal

pub returns-then-s-lt4 : goal.returns-then-s-lt4
unfolding message_in fields_of checked
returns-then-s-lt4 c = exact_as c.args.s.now (λ i. (c.type_inv.s i).fits) (rw (lt-leb _ _ c.if-s-lt4.true))

pub returns-then-is_channel_number : goal.returns-then-is_channel_number
unfolding message_in fields_of
returns-then-is_channel_number c = exact_as c.args.s.now (λ i. (c.type_inv.s i).fits) (rw (le-leb _ _ c.if-s-lt4.false, ← c.at-number.ensures, ← c.is_channel_number.ensures, c.if-is_channel_number.true) c.channel_data.ensures)

pub returns-then-s-lt-HEADER : goal.returns-then-s-lt-HEADER
unfolding message_in fields_of checked
returns-then-s-lt-HEADER c = exact_as c.args.s.now (λ i. (c.type_inv.s i).fits) (rw (le-leb _ _ c.if-s-lt4.false, ← c.at-number.ensures, ← c.is_channel_number.ensures, c.if-is_channel_number.false, lt-leb _ _ c.if-s-lt-HEADER.true))

pub returns : goal.returns
unfolding message_in fields_of
returns c = exact_as c.args.s.now (λ i. (c.type_inv.s i).fits) (rw (le-leb _ _ c.if-s-lt4.false, ← c.at-number.ensures, ← c.is_channel_number.ensures, c.if-is_channel_number.false, le-leb _ _ c.if-s-lt-HEADER.false, ← c.of.ensures) c.stun_message.ensures)
