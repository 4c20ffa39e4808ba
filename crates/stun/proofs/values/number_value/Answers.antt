use mathlib.Core.Path.{sym, ◌∙◌}
use native.Mathlib.Omega.{arith}
use Rattle.stun.proofs.Laws.{first_in}
use Rattle.stun.proofs.values.number_value.Goals as goal

pub at-requires : goal.at-requires
at-requires g c = let narrow = g.met.N.Number.narrow in omega (arith, first_in _ _ (sym c.first_attribute.ensures ∙ c.in-Some.is))
