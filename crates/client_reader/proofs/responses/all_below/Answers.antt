use Rattle.std.proofs.Common.{◌∙◌, ltb, rules, tests}
use Rattle.std.proofs.lemmas.Iterator.{YieldsList-from_slice}
use Rattle.std.proofs.lemmas.Iterator.Search.{all_from_yields_List}
use Prim.Native.Nat.{ℕ}
use Rattle.client_reader.proofs.Types.{all_is}
use Rattle.client_reader.proofs.responses.all_below.Goals as goal

pub returns : goal.returns
returns c =
    all_from_yields_List (λ (t : ℕ). ltb t c.args.bound) _ _ _ c.all.ensures.ran (YieldsList-from_slice c.args.types cc) (λ x b q k. search (rules, tests))
    ∙ all_is c.args.bound c.args.types
