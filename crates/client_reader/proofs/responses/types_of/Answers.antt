use Prim.Native.Nat.{ℕ, ◌-◌}
use mathlib.Core.Path.{◌≡◌, ap₂}
use mathlib.Core.List.{List, ◌++◌, append-nil}
use lib.ListN.{length-take, length-set}
use native.Mathlib.Omega.{arith}
use Rattle.std.proofs.lemmas.List.{take-replicate, drop-replicate}
use Rattle.client_reader.specs.Inner.{types_of, types_from}
use Rattle.client_reader.proofs.Types.{types_next}
use Rattle.client_reader.proofs.responses.types_of.Goals as goal

pub loop-i-init : goal.loop-i-init
unfolding types_from
loop-i-init c =
    let z : c.args.count - 0 ≡ c.args.count = omega arith in
    (omega arith, rw length-take (omega arith), rw z (take-replicate {X = ℕ} c.args.count 16 0 (omega arith)))

pub loop-i-preserved : goal.loop-i-preserved
loop-i-preserved c =
    let h = c.loop-i.invariant in
    (omega arith, simp length-set h.1, rw c.at.ensures (types_next _ _ c.loop-i.i c.args.count h.2 (omega arith)))

pub returns : goal.returns
unfolding types_of
returns c =
    let e : c.loop-i.i ≡ c.args.count = omega arith in
    let z : c.args.count - c.args.count ≡ 0 = omega arith in
    ap₂ (λ (a b : List ℕ). a ++ b) (rw (e, z, append-nil) at c.loop-i.invariant.2) (drop-replicate {X = ℕ} c.args.count 16 0)
