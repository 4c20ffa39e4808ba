use native.Mathlib.Omega.{arith}
use borrow.Author.Tests.{ne_eqb}
use lib.ListN.{length}
use Rattle.lines.specs.Inner.{read_address}
use Rattle.lines.proofs.fields.read_address.Goals as goal

pub returns-then-not-is_hex : goal.returns-then-not-is_hex
unfolding read_address
returns-then-not-is_hex c = rw (← c.is_hex.ensures, c.if-not-is_hex.true)

pub returns-in-8 : goal.returns-in-8
unfolding read_address
returns-in-8 c = rw (c.word_at.ensures, ← c.is_hex.ensures, c.if-not-is_hex.false, c.in-8.is)

pub returns-in-32 : goal.returns-in-32
unfolding read_address
returns-in-32 c = rw (c.word_at-in-32.ensures, c.word_at-in-32-2.ensures, c.word_at-in-32-3.ensures, c.word_at-in-32-4.ensures, ← c.is_hex.ensures, c.if-not-is_hex.false, c.in-32.is)

pub returns-in_default : goal.returns-in_default
unfolding read_address
returns-in_default c =
    rw (← c.is_hex.ensures, c.if-not-is_hex.false, ne_eqb (length c.args.field.now) 32 (λ e. omega arith), ne_eqb (length c.args.field.now) 8 (λ e. omega arith))
