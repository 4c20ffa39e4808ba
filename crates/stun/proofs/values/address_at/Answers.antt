use Prim.Native.Nat.{◌+◌}
use mathlib.Core.Path.{◌≡◌}
use mathlib.Core.Bool.{false}
use lib.Dec.{eqb}
use lib.ListN.{get_or}
use native.Mathlib.Omega.{arith}
use borrow.Author.Tests.{eq-eqb, ne_eqb}
use Rattle.choice.specs.Choice.{both}
use Rattle.stun.specs.Values.{address_at}
use Rattle.stun.proofs.values.address_at.Goals as goal
use Rattle.stun.proofs.values.address_at.Goals.{else-len-eq8-via-then-len-eq8+else-s-at-eq1, else-len-eq8-via-else-len-eq8, else-len-eq20-via-then-len-eq20+else-s-at-eq2, else-len-eq20-via-else-len-eq20}

pub returns-then-s-at-eq1 : goal.returns-then-s-at-eq1
unfolding address_at both
returns-then-s-at-eq1 c = rw (eq-eqb _ _ c.if-len-eq8.true, eq-eqb _ _ c.if-s-at-eq1.true, c.v4_at.ensures)

pub returns-then-s-at-eq2 : goal.returns-then-s-at-eq2
unfolding address_at both
returns-then-s-at-eq2 c = rw (ne_eqb c.args.len 8 (omega arith), eq-eqb _ _ c.if-len-eq20.true, eq-eqb _ _ c.if-s-at-eq2.true, c.v6_at.ensures)

pub returns : goal.returns
unfolding address_at both
returns c =
    let no_v4 : both (eqb c.args.len 8) (eqb (get_or c.args.s.now (c.args.at + 1) 0) 1) ≡ false = elim c.else-len-eq8.branch [
      | else-len-eq8-via-then-len-eq8+else-s-at-eq1 w ↦ rw (eq-eqb _ _ w.if-len-eq8.true, ne_eqb _ _ w.if-s-at-eq1.false)
      | else-len-eq8-via-else-len-eq8 w ↦ rw (ne_eqb _ _ w.if-len-eq8.false)
    ] in
    let no_v6 : both (eqb c.args.len 20) (eqb (get_or c.args.s.now (c.args.at + 1) 0) 2) ≡ false = elim c.else-len-eq20.branch [
      | else-len-eq20-via-then-len-eq20+else-s-at-eq2 w ↦ rw (eq-eqb _ _ w.if-len-eq20.true, ne_eqb _ _ w.if-s-at-eq2.false)
      | else-len-eq20-via-else-len-eq20 w ↦ rw (ne_eqb _ _ w.if-len-eq20.false)
    ] in
    rw (no_v4, no_v6)
