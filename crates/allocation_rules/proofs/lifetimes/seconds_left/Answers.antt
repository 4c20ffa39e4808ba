use native.Mathlib.Omega.{arith}
use Rattle.allocation_rules.specs.Allocations.{seconds_left}
use Rattle.allocation_rules.proofs.lifetimes.seconds_left.Goals as goal

pub returns-then-expiry-time : goal.returns-then-expiry-time
unfolding seconds_left
returns-then-expiry-time c = omega arith

pub returns-then-left-gt4294967295 : goal.returns-then-left-gt4294967295
unfolding seconds_left
returns-then-left-gt4294967295 c = omega arith

pub returns : goal.returns
unfolding seconds_left
returns c = omega arith
