-- What the functions inside this crate promise each other. No public statement rests on it.
use Rattle.std.specs.Prelude.{ℕ, ◌^◌, ◌<◌, ◌≤◌, Option, None, Some}
use Rattle.denied.specs.Prefixes.{Line}

-- a word, if it is a number
abbrev pub WordOf : Option ℕ → Type 0
WordOf (Some n) = n < 2 ^ 32
WordOf None = Unit

-- an address of 32 bits and a length within them
abbrev pub LineFits : Line → Type 0
LineFits (Some p) = (p.address < 2 ^ 32) × (p.length ≤ 32)
LineFits None = Unit
