-- Request 2 said of a list of calls: what stays out of reach where each call meets the tree of one text.
use Rattle.std.specs.Prelude.{ℕ, ◌≡◌, List, [], ◌∷◌}
use Rattle.address.specs.declared.Address.TheVariants.{V4}
use Rattle.address.specs.declared.FiveTuple.{FiveTuple}
use Rattle.address.specs.declared.TransportAddress.{TransportAddress}
use Rattle.rules.specs.declared.answer.Outcome.TheVariants.{ToPeer}
use Rattle.history.specs.Events.{Event}
use Rattle.history.specs.Statement.{FromAddress, To}

-- every call of the list meets this tree
abbrev pub AllMeet : (nodes : List ℕ) → List Event → Type 0
AllMeet nodes [] = Unit
AllMeet nodes (e ∷ rest) = (e.arrival.denied ≡ nodes) × AllMeet nodes rest

-- nothing passes between a client and this address
pub record KeptOut (x : ℕ) (e : Event) : Type 0 where
  pub reaches_nobody : (R t : ℕ) → FromAddress e.arrival R (V4 x) t → (C : FiveTuple) → To C e → ⊥
  pub is_not_reached : (port : ℕ) (peer : TransportAddress) (start len : ℕ) → e.outcome ≡ ToPeer port peer start len → peer.address ≡ V4 x → ⊥
