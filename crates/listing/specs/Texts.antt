-- Texts one after another.
use Rattle.std.specs.Prelude.{ℕ, suc, List, [], ◌∷◌, ◌++◌}

-- the texts of the entries of a list, whose first has the index i: `text` says what an entry at an index is
unfoldable pub texts : {A : Type 0} → (ℕ → A → List ℕ) → ℕ → List A → List ℕ
texts text i [] = []
texts text i (x ∷ l) = text i x ++ texts text (suc i) l
