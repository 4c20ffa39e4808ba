use mathlib.Core.Path.{ap, sym}
use lib.Dec.{lit≤}
use lib.ListN.{length}
use native.Mathlib.Omega.{arith}
use Rattle.listing.proofs.Laws.{lines_size, lines_lapsed}
use Rattle.listing.proofs.sizes.slot_size.Goals as goal

pub returns-then-not-is_live : goal.returns-then-not-is_live
returns-then-not-is_live c = let a = c.args in (ap length (sym (lines_lapsed a.clock a.k a.slot.now c.is_live.ensures c.if-not-is_live.true)), lit≤ tt)

pub returns : goal.returns
returns c =
    let a = c.args in
    let all = lines_size a.clock a.k a.slot.now c.is_live.ensures c.if-not-is_live.false in
    let first = ap length c.fields.ensures.is in
    let one = c.line_size-first.ensures in
    let two = c.entries_size.ensures in
    let three = c.entries_size-2.ensures in
    (omega (arith, all, first, one, two.0, three.0), omega (arith, first, one, c.fields.ensures.most c.requires, two.1, three.1))
