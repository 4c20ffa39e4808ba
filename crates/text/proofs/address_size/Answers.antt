use mathlib.Core.Path.{sym}
use lib.Dec.{lit≤}
use Rattle.text.proofs.Laws.{length_v4, length_v6}
use Rattle.text.proofs.address_size.Goals as goal

pub returns-in-V4 : goal.returns-in-V4
returns-in-V4 c = (sym (length_v4 c.in-V4.is), lit≤ tt)

pub returns-in-V6 : goal.returns-in-V6
returns-in-V6 c = (sym (length_v6 c.in-V6.is), lit≤ tt)
