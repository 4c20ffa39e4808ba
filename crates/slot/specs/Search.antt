-- The lowest entry of a list that passes a test, and what is done with its place. `A` is what the entries are.
use Rattle.std.specs.Prelude.{ℕ, zero, suc, Bool, true, false, List, [], ◌∷◌, set, get_or, Option, Some, None}
use Rattle.choice.specs.Choice.{pick}

-- one place further
abbrev pub further : Option ℕ → Option ℕ
further (Some i) = Some (suc i)
further None = None

-- 'where several entries match, the lowest-numbered counts'
unfoldable pub find : {A : Type 0} → (A → Bool) → List A → Option ℕ
find passes [] = None
find passes (x ∷ l) = pick (passes x) (Some zero) (further (find passes l))

-- whether there is one
abbrev pub has : Option ℕ → Bool
has (Some i) = true
has None = false

-- the first, or where it is none the second
abbrev pub or_else : Option ℕ → Option ℕ → Option ℕ
or_else (Some i) second = Some i
or_else None second = second

-- the entry for a key: the lowest that is the key's own, 'or the lowest entry that isn't live takes it'
unfoldable pub entry : {A : Type 0} → (A → Bool) → (A → Bool) → List A → Option ℕ
entry mine free l = or_else (find mine l) (find free l)

-- the list with x at the place found
unfoldable pub put_at : {A : Type 0} → Option ℕ → A → List A → List A
put_at (Some i) x l = set l i x
put_at None x l = l

-- what stands at the place found, or d
unfoldable pub at_or : {A : Type 0} → A → Option ℕ → List A → A
at_or d (Some i) l = get_or l i d
at_or d None l = d
