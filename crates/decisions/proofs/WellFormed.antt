-- What a well-formed datagram has.
use Prim.Native.Nat.{ℕ, ◌-◌, ◌%◌, ◌≤◌}
use mathlib.Core.Path.{◌≡◌, refl}
use mathlib.Core.Bool.{Bool, true, false, ◌&&◌}
use mathlib.Core.List.{List}
use lib.ListN.{length}
use lib.Dec.{eqb, leb}
use borrow.Author.Tests.{leb-true}
use Rattle.wire.specs.Wire.{num}
use Rattle.stun.specs.Message.{attributes_fit, is_well_formed}

-- ---- A message that is well formed has a header
pub well_formed_long : (s : List ℕ) → is_well_formed s ≡ true → 20 ≤ length s
unfolding is_well_formed
well_formed_long s e =
    let length-field = eqb (num s 2 2) (length s - 20) in
    let four = eqb (num s 2 2 % 4) 0 in
    let cookie = eqb (num s 4 4) 0x2112_a442 in
    let long = leb 20 (length s) in
    leb-true 20 (length s)
    (first long length-field (first (long && length-field) four (first (long && length-field && four) cookie (first (long && length-field && four && cookie) (attributes_fit s) e))))
  where
    first : (a b : Bool) → a && b ≡ true → a ≡ true
    first true b e = refl
    first false b e = e
