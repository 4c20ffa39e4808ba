-- What the functions inside this crate and those of the crates above promise each other. No public statement rests on it.
use Rattle.std.specs.Prelude.{ℕ, ◌+◌, ◌≡◌, List, ◌++◌, length, drop, Option, None, Some}
use Rattle.choice.specs.Choice.{pick}
use Rattle.text.specs.Scan.{index_of}
use Rattle.text.specs.Text.{is_hex, hex_bytes_of}

-- a buffer after a text was read into it: the bytes of a hex text stand at its front, and a text that is not hex leaves it as it was
unfoldable pub hex_into : List ℕ → List ℕ → List ℕ
hex_into text before = pick (is_hex text) (hex_bytes_of text ++ drop (length (hex_bytes_of text)) before) before

-- a hex text was read into a buffer: the number of its bytes is the answer, or nothing where the text is not hex
pub record ReadHex (text before after : List ℕ) (read : Option ℕ) : Type 0 where
  pub answer : read ≡ pick (is_hex text) (Some (length (hex_bytes_of text))) None
  pub is : after ≡ hex_into text before

-- b is none of the block's bytes: whoever looks for it goes on behind them
abbrev pub Past : List ℕ → ℕ → Type 0
Past block b = (rest : List ℕ) → index_of b (block ++ rest) ≡ length block + index_of b rest
