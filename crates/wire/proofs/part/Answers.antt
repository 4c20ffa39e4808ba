use Prim.Native.Nat.{◌-◌}
use native.Mathlib.Omega.{arith}
use mathlib.Core.Logic.{inl, inr}
use mathlib.Core.Path.{sym, ap, ◌∙◌}
use lib.ListN.{length, take, drop, length-drop}
use lib.Seq.{take_all}
use Rattle.wire.proofs.Laws.{part_within, part_outside}
use Rattle.wire.proofs.part.Goals.{in_default-via-in-Some+else-len-rest, in_default-via-in_default}
use Rattle.wire.proofs.part.Goals as goal

pub returns-in-Some : goal.returns-in-Some
returns-in-Some c =
    let a = c.args in
    let h = c.in-Some.ensures.lookup.0 in
    let e = h.2 ∙ take_all (length a.s.now - a.start) (drop a.start a.s.now) (rw length-drop (omega arith)) in
    rw (part_within a.s.now a.start a.len (omega arith)) (ap (take a.len) e)

pub returns-in_default : goal.returns-in_default
returns-in_default c =
    let a = c.args in
    sym (part_outside a.s.now a.start a.len (elim c.in_default.branch [ in_default-via-in-Some+else-len-rest w ↦ omega (arith, w.in-Some.ensures.lookup.0.3) | in_default-via-in_default w ↦ elim w.in_default.ensures.lookup.0 [ inl h ↦ omega arith | inr h ↦ omega arith ] ]))
