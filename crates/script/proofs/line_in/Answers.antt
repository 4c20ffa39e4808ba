use Rattle.std.proofs.Common.{List, ℕ, refl, ap, ◌∙◌, Bor}
use Rattle.script.proofs.Run.{line_in_got}
use Rattle.script.proofs.line_in.Goals as goal

pub returns : goal.returns
returns c =
    let now = λ (r : Bor (List ℕ)). r.now in
    ap now c.unwrap_or.ensures ∙ line_in_got now c.args.start c.args.end c.args.input.now c.get.result _ refl c.get.ensures.lookup
