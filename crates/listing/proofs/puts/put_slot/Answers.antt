use mathlib.Core.Path.{sym, ap}
use lib.Dec.{lit≤}
use lib.ListN.{length}
use native.Mathlib.Omega.{arith}
use Rattle.listing.proofs.Laws.{put_none, put_length, put_then, put_as, lines_live, lines_size, lines_lapsed}
use Rattle.listing.proofs.puts.put_slot.Goals as goal

pub returns-then-not-is_live : goal.returns-then-not-is_live
returns-then-not-is_live c = let a = c.args in put_as (lines_lapsed a.clock a.k a.slot.now c.is_live.ensures c.if-not-is_live.true) (put_none _ _ (omega arith))

pub put_line-second-requires : goal.put_line-second-requires
put_line-second-requires c =
    let a = c.args in
    omega (arith, lines_size a.clock a.k a.slot.now c.is_live.ensures c.if-not-is_live.false, ap length c.fields.ensures.is)

pub put_entries-third-requires : goal.put_entries-third-requires
put_entries-third-requires c =
    let a = c.args in
    let all = lines_size a.clock a.k a.slot.now c.is_live.ensures c.if-not-is_live.false in
    let second = c.put_line-second.ensures in
    record { few = lit≤ tt; fits = omega (arith, all, ap length c.fields.ensures.is, second.then, put_length second) }

pub put_entries-requires : goal.put_entries-requires
put_entries-requires c =
    let a = c.args in
    let all = lines_size a.clock a.k a.slot.now c.is_live.ensures c.if-not-is_live.false in
    let second = c.put_line-second.ensures in
    let third = c.put_entries-third.ensures in
    record { few = lit≤ tt; fits = omega (arith, all, ap length c.fields.ensures.is, second.then, put_length second, third.then, put_length third) }

pub returns : goal.returns
returns c =
    let a = c.args in
    let first = put_as (sym c.fields.ensures.is) c.put_line-second.ensures in
    put_as (lines_live a.clock a.k a.slot.now c.is_live.ensures c.if-not-is_live.false) (put_then (put_then first c.put_entries-third.ensures) c.put_entries.ensures)
