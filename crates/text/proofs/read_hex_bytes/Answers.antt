use mathlib.Core.Path.{sym, ◌∙◌}
use native.Mathlib.Omega.{arith}
use Rattle.text.proofs.Laws.{not_read, filling_start, filling_high, filling_low, filling_next, filling_end}
use Rattle.text.proofs.read_hex_bytes.Goals as goal

pub returns-then-not-is_hex : goal.returns-then-not-is_hex
returns-then-not-is_hex c = not_read (sym c.is_hex.ensures ∙ c.if-not-is_hex.true)

pub loop-k-init : goal.loop-k-init
loop-k-init c = filling_start _ _ (sym c.is_hex.ensures ∙ c.if-not-is_hex.false)

pub value_of_digit-high-requires : goal.value_of_digit-high-requires
value_of_digit-high-requires c = filling_high c.loop-k.invariant (omega arith)

pub value_of_digit-low-requires : goal.value_of_digit-low-requires
value_of_digit-low-requires c = filling_low c.loop-k.invariant (omega arith)

pub loop-k-preserved : goal.loop-k-preserved
loop-k-preserved c = filling_next c.loop-k.invariant (omega arith) c.value_of_digit-high.ensures.0 c.value_of_digit-low.ensures.0 (omega arith)

pub returns : goal.returns
returns c = filling_end c.loop-k.invariant (omega arith)
