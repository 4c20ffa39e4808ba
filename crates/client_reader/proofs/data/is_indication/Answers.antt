use Prim.Native.Nat.{◌+◌, ◌-◌}
use mathlib.Core.Path.{refl}
use lib.ListN.{length, drop, length-take, length-drop}
use native.Mathlib.Omega.{arith}
use Rattle.choice.proofs.Laws.{and_both}
use Rattle.messages.specs.Messages.{padding}
use Rattle.client_reader.proofs.Around.{indication_same, zeros_told}
use Rattle.client_reader.proofs.data.is_indication.Goals as goal

pub slice_bounds-same-end : goal.slice_bounds-same-end
slice_bounds-same-end c = rw length-take (omega arith)

pub returns : goal.returns
returns c =
    let a = c in
    let s = a.args.s.now in
    let len = a.args.len in
    let told = zeros_told c.same-padded.result (padding len) (length s - (36 + len)) (drop (36 + len) s) (omega arith) (rw length-drop (omega arith)) c.same-padded.ensures in
    rw (and_both, and_both, c.indication_head.ensures, c.at.ensures, ← a.requires.0)
    (indication_same s (λ i. (c.type_inv.s i).fits) len (padding len) a.requires.0 refl a.requires.1 a.requires.2 c.same-padded.result told)
