-- What the functions that read a line promise each other and `script`. No public statement rests on it.
use Rattle.std.specs.Prelude.{ℕ, ◌≡◌, List, [], eqb, length, take, Option, None, Some, is_some, unwrap_or}
use Rattle.choice.specs.Choice.{pick, both}
use Rattle.address.specs.declared.Address.{Address}
use Rattle.address.specs.declared.Address.TheVariants.{V4, V6}
use Rattle.text.specs.Text.{is_hex}
use Rattle.lines.specs.declared.Request.{Request}
use Rattle.lines.specs.Fields.{field_end, is_more, after, number_up_to, is_address, word_at, address_of}
use Rattle.lines.specs.Lines.{Line, asks, bad}

-- ---- The readers: what the first field is, and what is left after it, where a tab follows it

unfoldable pub split_field : List ℕ → Option (List ℕ × List ℕ)
split_field l = pick (is_more l) (Some (take (field_end l) l, after l)) None

unfoldable pub number_field : ℕ → List ℕ → Option (ℕ × List ℕ)
number_field most l = pick (both (is_some (number_up_to most l)) (is_more l)) (Some (unwrap_or (number_up_to most l) 0, after l)) None

-- a whole field as an address
unfoldable pub read_address : List ℕ → Option Address
read_address f =
    pick (is_hex f)
    (pick (eqb (length f) 32) (Some (V6 (word_at 0 f) (word_at 8 f) (word_at 16 f) (word_at 24 f))) (pick (eqb (length f) 8) (Some (V4 (word_at 0 f))) None))
    None

unfoldable pub address_field : List ℕ → Option (Address × List ℕ)
address_field l = pick (both (is_address l) (is_more l)) (Some (address_of l, after l)) None

-- ---- What reading a line gives: the call and how long its datagram is, and the datagram at the front of a buffer

abbrev pub as_read : Line → Option Request
as_read bad = None
as_read (asks call datagram) = Some (record { call = call; len = length datagram })

abbrev pub datagram_of : Line → List ℕ
datagram_of bad = []
datagram_of (asks call datagram) = datagram

pub record Reads (line : Line) (buffer : List ℕ) (r : Option Request) : Type 0 where
  pub is : r ≡ as_read line
  pub front : take (length (datagram_of line)) buffer ≡ datagram_of line
