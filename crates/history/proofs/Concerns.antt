-- Which counted events concern C at port R: C's own, and who was given R.
use Prim.Native.Nat.{ℕ}
use mathlib.Core.Bool.{Bool, true, false}
use lib.Dec.{eqb}
use Rattle.choice.specs.Choice.{pick}
use Rattle.address.specs.declared.FiveTuple.{FiveTuple}
use Rattle.address.specs.Address.{same_five_tuple}
use Rattle.history.specs.Counted.{Counted, gave, kept, allowed, nothing}

abbrev pub concerns : FiveTuple → ℕ → Counted → Bool
concerns C R (gave D P s n) = pick (same_five_tuple D C) true (eqb P R)
concerns C R (kept D s n) = same_five_tuple D C
concerns C R (allowed D xs ends) = same_five_tuple D C
concerns C R nothing = false
