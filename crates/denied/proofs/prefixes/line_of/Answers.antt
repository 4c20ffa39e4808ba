use mathlib.Core.Path.{sym, subst, ◌∙◌}
use native.Mathlib.Omega.{arith}
use Rattle.denied.specs.Inner.{WordOf}
use Rattle.denied.proofs.Laws.{short_line, no_tab, no_address, no_length, bits_left, whole_prefix, word_of, prefix_short}
use Rattle.denied.proofs.prefixes.line_of.Goals as goal

pub returns-then-line-lt9 : goal.returns-then-line-lt9
returns-then-line-lt9 c = (short_line _ c.if-line-lt9.true, tt)

pub returns-then-line-ne-TAB : goal.returns-then-line-ne-TAB
returns-then-line-ne-TAB c = (no_tab _ c.if-line-ne-TAB.true, tt)

pub returns-in_err-address : goal.returns-in_err-address
returns-in_err-address c = rw c.from_residual.ensures (no_address _ c.if-line-ne-TAB.false c.read_hex_word.ensures c.in_err-address.was, tt)

pub returns-in_err-length : goal.returns-in_err-length
returns-in_err-length c =
    rw c.from_residual-in_err-length.ensures (no_length _ c.if-line-ne-TAB.false c.read_hex_word.ensures c.in_ok-address.was c.read_decimal.ensures c.in_err-length.was, tt)

pub returns-then-not-is_prefix : goal.returns-then-not-is_prefix
returns-then-not-is_prefix c =
    (bits_left _ c.if-line-ne-TAB.false c.read_hex_word.ensures c.in_ok-address.was c.read_decimal.ensures c.in_ok-length.was c.is_prefix.ensures c.if-not-is_prefix.true, tt)

pub overflow_cast-result : goal.overflow_cast-result
overflow_cast-result c = record { fits = subst WordOf c.in_ok-address.was (word_of _ _ c.read_hex_word.ensures) }

pub overflow_cast-result-2 : goal.overflow_cast-result-2
overflow_cast-result-2 c = record { fits = omega (arith, prefix_short _ _ (sym c.is_prefix.ensures ∙ c.if-not-is_prefix.false)) }

pub returns : goal.returns
returns c =
    let whole = whole_prefix _ c.if-line-ne-TAB.false c.read_hex_word.ensures c.in_ok-address.was c.read_decimal.ensures c.in_ok-length.was c.is_prefix.ensures c.if-not-is_prefix.false in
    (whole, (subst WordOf c.in_ok-address.was (word_of _ _ c.read_hex_word.ensures), prefix_short _ _ (sym c.is_prefix.ensures ∙ c.if-not-is_prefix.false)))
