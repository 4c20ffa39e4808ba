-- The part of the reply that is sent, and the numbers of the refusals.
use Prim.Native.Nat.{ℕ, ◌≤◌, ◌^◌}
use mathlib.Core.Path.{◌≡◌}
use mathlib.Core.Bool.{Bool}
use mathlib.Core.List.{List, []}
use native.Mathlib.Nat.{zero-add}
use native.Mathlib.Omega.{arith}
use lib.Dec.{leb, ltb}
use lib.ListN.{length, take}
use Rattle.wire.specs.Wire.{part_of}
use Rattle.choice.specs.Choice.{pick}
use Rattle.choice.proofs.Laws.{chosen}
use Rattle.interface.specs.declared.incoming.Call.{Call}
use Rattle.interface.specs.declared.incoming.Call.TheVariants.{Client, Peer}
use Rattle.interface.specs.declared.refusals.Lengths.{Lengths}
use Rattle.interface.specs.Refusals.{time_of, refused_caller, refusal}

-- ---- The parts that are sent
pub part_first : (s : List ℕ) (len : ℕ) → part_of s 0 len ≡ pick (leb len (length s)) (take len s) []
unfolding part_of
part_first s len = rw (zero-add len)

-- ---- The numbers of the refusals
small : (b : Bool) (n : ℕ) {rest : ℕ} → n ≤ 10 → rest ≤ 10 → pick b n rest ≤ 10
small b n h r = chosen (λ (x : ℕ). x ≤ 10) b (λ _. h) (λ _. r)

refused_caller_small : (call : Call) {rest : ℕ} → rest ≤ 10 → refused_caller call rest ≤ 10
refused_caller_small (Client call) r = small _ 7 (omega arith) (small _ 5 (omega arith) r)
refused_caller_small (Peer call) r = r

pub refusal_small : (clock : ℕ) (lengths : Lengths) (call : Call) → refusal clock lengths call ≤ 10
unfolding refusal
refusal_small clock lengths call =
    let time : pick (ltb (2 ^ 40) (time_of call)) 2 (pick (ltb (time_of call) clock) 1 0) ≤ 10 = small _ 2 (omega arith) (small _ 1 {rest = 0} (omega arith) (omega arith)) in
    small _ 3 (omega arith) (small _ 6 (omega arith) (small _ 4 (omega arith) (refused_caller_small call time)))
