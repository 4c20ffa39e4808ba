-- The place of a byte in a run of bytes.
use Rattle.std.specs.Prelude.{ℕ, suc, List, [], ◌∷◌, eqb}
use Rattle.choice.specs.Choice.{pick}

-- the place of the first b in a run of bytes, or its length where there is none
unfoldable pub index_of : ℕ → List ℕ → ℕ
index_of b [] = 0
index_of b (c ∷ s) = pick (eqb c b) 0 (suc (index_of b s))
