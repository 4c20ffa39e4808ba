use mathlib.Core.Path.{◌≡◌}
use lib.ListN.{length-take}
use native.Mathlib.Omega.{arith}
use borrow.Author.Rules.{rules}
use borrow.Author.Tests.{eq-eqb, ne_eqb}
use Rattle.rules.specs.Change.{error_message}
use Rattle.rules.proofs.Laws.{types_few, types_listed, kept_with}
use Rattle.rules.proofs.answer.respond_error.Goals as goal

pub put_unknown_response-len-requires : goal.put_unknown_response-len-requires
put_unknown_response-len-requires c = (rw length-take (omega (arith, types_few _ c.unknown_types-unknown.ensures)), omega arith)

pub shared_ref_as_front-types : goal.shared_ref_as_front-types
shared_ref_as_front-types c = omega (arith, types_few _ c.unknown_types-unknown.ensures)

pub returns-then-code-number : goal.returns-then-code-number
unfolding error_message
returns-then-code-number c =
    let e : c.args.code ≡ 420 = search rules in
    rw (eq-eqb c.args.code 420 e, ← c.transaction_id-id.ensures, ← types_listed _ c.unknown_types-unknown.ensures) (kept_with c.put_unknown_response-len.ensures)

pub returns : goal.returns
unfolding error_message
returns c =
    let n : c.args.code ≡ 420 → ⊥ = search rules in
    rw (ne_eqb c.args.code 420 n, ← c.transaction_id-id.ensures) (kept_with c.put_error_response-len.ensures)
