use mathlib.Core.Path.{◌≡◌}
use mathlib.Core.Bool.{true}
use lib.ListN.{take}
use Rattle.text.specs.Inner.{Past}
use Rattle.text.proofs.scan.is_past.Given as goal

abbrev pub invariant-loop-c : goal.invariant-loop-c
invariant-loop-c l = l.past ≡ true → Past (take l.c-index l.block) l.b
