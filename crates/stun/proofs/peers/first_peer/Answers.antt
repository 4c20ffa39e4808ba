use mathlib.Core.Path.{◌≡◌}
use Rattle.std.proofs.Common.{Option, Some, None, MatchOption, List, [], ◌∷◌}
use Rattle.std.specs.Option.{option_flatten}
use Rattle.address.specs.declared.TransportAddress.{TransportAddress}
use Rattle.stun.specs.Values.{head_of, first_peer}
use Rattle.stun.proofs.peers.first_peer.Goals as goal

given : (before after : List (Option TransportAddress)) (r : Option (Option TransportAddress))
    → MatchOption r ((before ≡ []) × (after ≡ [])) (λ x. before ≡ x ∷ after) → option_flatten r ≡ head_of before
given before after None e = rw e.0
given before after (Some x) e = rw e

pub returns : goal.returns
unfolding first_peer
returns c = rw (c.flatten.ensures, ← c.of.ensures) (given _ _ c.next.result c.next.ensures.steps)
