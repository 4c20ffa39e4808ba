use mathlib.Core.Path.{sym}
use native.Mathlib.Omega.{arith}
use Rattle.text.specs.Text.{address_text}
use Rattle.text.proofs.Laws.{length_v4, length_v6}
use Rattle.text.proofs.put_address.Goals as goal

pub put_hex_word-requires : goal.put_hex_word-requires
put_hex_word-requires c = omega (arith, length_v4 c.in-V4.is)

pub put_v6-requires : goal.put_v6-requires
put_v6-requires c = omega (arith, length_v6 c.in-V6.is)

pub returns-in-V4 : goal.returns-in-V4
unfolding address_text
returns-in-V4 c = let e = c.in-V4.is in (sym (length_v4 e), rw e c.put_hex_word.ensures)

pub returns-in-V6 : goal.returns-in-V6
returns-in-V6 c = let e = c.in-V6.is in (sym (length_v6 e), rw e c.put_v6.ensures)
