-- The fields of a line: 'Fields are parted by one tab and written as in the listing'. A definition that speaks of l speaks of what is left
-- of a line, from the place where a field begins.
use Rattle.std.specs.Prelude.{ℕ, zero, suc, ◌+◌, Bool, false, List, eqb, leb, ltb, length, take, drop, Option, None, Some, unwrap_or}
use Rattle.std.proofs.Math.Seq.{slice}
use Rattle.text.specs.Scan.{index_of}
use Rattle.choice.specs.Choice.{pick}
use Rattle.address.specs.declared.Address.{Address}
use Rattle.address.specs.declared.Address.TheVariants.{V4, V6}
use Rattle.text.specs.Text.{decimal_of, hex_word_of, is_hex}

-- how long the first field is: up to the next tab, or to the end
unfoldable pub field_end : List ℕ → ℕ
field_end l = index_of 9 l

-- whether a tab follows it
unfoldable pub is_more : List ℕ → Bool
is_more l = ltb (field_end l) (length l)

-- what is left after it and its tab
unfoldable pub after : List ℕ → List ℕ
after l = drop (suc (field_end l)) l

-- what is left after k fields and their tabs
unfoldable pub rest : ℕ → List ℕ → List ℕ
rest zero l = l
rest (suc k) l = after (rest k l)

-- ---- Numbers

-- a number that was read, if it is at most this
unfoldable pub at_most : ℕ → Option ℕ → Option ℕ
at_most most (Some n) = pick (leb n most) (Some n) None
at_most most None = None

-- the first field as a number that is at most this
unfoldable pub number_up_to : ℕ → List ℕ → Option ℕ
number_up_to most l = at_most most (decimal_of (take (field_end l) l))

-- ---- Addresses: '8 or 32 lower hex digits'

-- whether the first field is an address
unfoldable pub is_address : List ℕ → Bool
is_address l = pick (eqb (field_end l) 32) (is_hex (take 32 l)) (pick (eqb (field_end l) 8) (is_hex (take 8 l)) false)

-- the word of the eight digits from k on
unfoldable pub word_at : ℕ → List ℕ → ℕ
word_at k l = unwrap_or (hex_word_of (slice k (k + 8) l)) 0

-- the address that it is
unfoldable pub address_of : List ℕ → Address
address_of l =
    pick (eqb (field_end l) 32) (V6 (word_at 0 l) (word_at 8 l) (word_at 16 l) (word_at 24 l)) (pick (eqb (field_end l) 8) (V4 (word_at 0 l)) (V4 0))
