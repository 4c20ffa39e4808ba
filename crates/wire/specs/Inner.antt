-- What the functions inside this crate and those of the crates above promise each other. No public statement rests on it.
use Rattle.std.specs.Prelude.{ℕ, ◌≤◌, ◌≡◌, List, ◌++◌, length, drop}

-- A was written at the front of the buffer that held before; the rest is as it was
pub record Wrote (A before after : List ℕ) : Type 0 where
  pub fits : length A ≤ length before
  pub is : after ≡ A ++ drop (length A) before

-- B was written at a place: where so many bytes were written before, they and then B are written now
abbrev pub WroteAt : ℕ → List ℕ → List ℕ → List ℕ → Type 0
WroteAt at B before after = (A d : List ℕ) → length A ≡ at → Wrote A d before → Wrote (A ++ B) d after
