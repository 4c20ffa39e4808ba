use mathlib.Core.Path.{sym, ◌∙◌}
use lib.Dec.{eqb}
use borrow.Author.Rules.{rules}
use Rattle.std.proofs.Common.{tests}
use Rattle.std.proofs.lemmas.Iterator.Consumers.{YieldsList-from_first}
use Rattle.std.proofs.lemmas.Iterator.Search.{find_from_yields_List}
use Rattle.std.proofs.lemmas.Iterator.Adapters.{option_map_id}
use Rattle.stun.specs.declared.message.Attribute.{Attribute}
use Rattle.stun.specs.Message.{first_of}
use Rattle.stun.specs.Inner.{attributes_left}
use Rattle.stun.proofs.message.first_attribute.Goals as goal

pub returns : goal.returns
unfolding first_of
returns c =
    let all = YieldsList-from_first {B = Attribute} (λ x. x) attributes_left {s = c.of.result} _ c.of.ensures in
    sym (option_map_id c.find.result) ∙ find_from_yields_List (λ (a : Attribute). eqb a.number c.args.number) c.find.new.self _ c.find.result c.find.ensures.ran all (λ x b q k. search (rules, tests))
