use Rattle.std.proofs.Common.{rules, tests, eqb, ℕ}
use Rattle.std.proofs.lemmas.Iterator.{YieldsList-from_slice}
use Rattle.std.proofs.lemmas.Iterator.Search.{position_from_yields_List}
use Rattle.text.proofs.Laws.{index_found}
use Rattle.text.proofs.scan.find.Goals as goal

pub returns : goal.returns
returns c =
    let a = c.args.a.now in
    let b = c.args.b in
    let found = position_from_yields_List (λ (x : ℕ). eqb x b) _ _ c.position.result c.position.ensures.ran (YieldsList-from_slice a cc) (λ x t q k. search (rules, tests)) in
    index_found b a found c.unwrap_or.ensures
