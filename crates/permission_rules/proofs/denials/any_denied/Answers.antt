use mathlib.Core.Path.{◌∙◌}
use Rattle.std.proofs.Common.{rules, tests, Option}
use Rattle.std.proofs.lemmas.Iterator.Consumers.{YieldsList-from_first}
use Rattle.std.proofs.lemmas.Iterator.Search.{any_from_yields_List}
use Rattle.address.specs.declared.TransportAddress.{TransportAddress}
use Rattle.stun.specs.Peers.{peers_left}
use Rattle.permission_rules.specs.Denials.{denied_peer}
use Rattle.permission_rules.proofs.Laws.{any_listed}
use Rattle.permission_rules.proofs.denials.any_denied.Goals as goal

pub returns : goal.returns
returns c =
    let all = YieldsList-from_first {B = Option TransportAddress} (λ x. x) peers_left {s = c.of.result} _ c.of.ensures in
    any_from_yields_List (denied_peer c.args.nodes.now) c.any.new.self _ c.any.result c.any.ensures.ran all (λ x b q k. search (rules, tests)) ∙ any_listed _ _
