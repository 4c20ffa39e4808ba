use Rattle.data_rules.specs.Data.{relay_from_peer}
use Rattle.decisions.specs.Decisions.{decided}
use Rattle.decisions.proofs.Laws.{peer_answers}
use Rattle.decisions.proofs.pass_peer.Goals as goal

pub returns : goal.returns
unfolding decided
returns c = peer_answers c.args.call (relay_from_peer _ _ _ _) c.relay_from_peer.ensures
