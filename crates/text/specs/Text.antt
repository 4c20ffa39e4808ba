-- Lines, addresses, numbers and bytes as text: 'Tabs part the fields, each line ends in a newline; addresses are 8 or 32 lower hex digits,
-- other numbers decimal without leading zeros.'
use Rattle.std.specs.Prelude.{ℕ, zero, suc, ◌+◌, ◌-◌, ◌*◌, ◌/◌, ◌%◌, ◌^◌, Bool, true, false, List, [], ◌∷◌, ◌++◌, eqb, leb, ltb, length, Option, None, Some}
use Rattle.choice.specs.Choice.{pick, both}
use Rattle.address.specs.declared.Address.{Address}
use Rattle.address.specs.declared.Address.TheVariants.{V4, V6}

-- ---- Written

-- 'Tabs part the fields, each line ends in a newline'
unfoldable pub line_text : List (List ℕ) → List ℕ
line_text [] = 10 ∷ []
line_text (field ∷ []) = field ++ 10 ∷ []
line_text (field ∷ next ∷ fields) = field ++ 9 ∷ line_text (next ∷ fields)

-- the character of a digit: 0 to 9, then a to f
unfoldable pub digit : ℕ → ℕ
digit d = pick (ltb d 10) (48 + d) (87 + d)

-- the w lowest digits of n, the lowest last
unfoldable pub digits_of : ℕ → ℕ → ℕ → List ℕ
digits_of base zero n = []
digits_of base (suc w) n = digits_of base w (n / base) ++ digit (n % base) ∷ []

-- how many decimal digits n has; k is at least n
unfoldable pub size_within : ℕ → ℕ → ℕ
size_within zero n = 1
size_within (suc k) n = pick (ltb n 10) 1 (suc (size_within k (n / 10)))

unfoldable pub decimal_size : ℕ → ℕ
decimal_size n = size_within n n

-- 'decimal without leading zeros': as many digits as n has
unfoldable pub decimal : ℕ → List ℕ
decimal n = digits_of 10 (decimal_size n) n

-- '8 .. lower hex digits'
unfoldable pub hex_word : ℕ → List ℕ
hex_word n = digits_of 16 8 n

-- 'addresses are 8 or 32 lower hex digits'
unfoldable pub address_text : Address → List ℕ
address_text (V4 a) = hex_word a
address_text (V6 a b c d) = hex_word a ++ hex_word b ++ hex_word c ++ hex_word d

-- two digits a byte
unfoldable pub hex_bytes : List ℕ → List ℕ
hex_bytes [] = []
hex_bytes (b ∷ l) = digits_of 16 2 b ++ hex_bytes l

-- ---- Read

-- what a character is as a digit, and 16 where it is none
unfoldable pub digit_value : ℕ → ℕ
digit_value c = pick (ltb c 48) 16 (pick (leb c 57) (c - 48) (pick (ltb c 97) 16 (pick (leb c 102) (c - 87) 16)))

-- the number whose digits are those of n and then these, if each is a digit of the base and the number stays below 2^64
unfoldable pub number_from : ℕ → ℕ → List ℕ → Option ℕ
number_from base n [] = Some n
number_from base n (c ∷ l) =
    pick (both (ltb (digit_value c) base) (ltb (n * base + digit_value c) (2 ^ 64))) (number_from base (n * base + digit_value c) l) None

-- the number, if the text is as long as its decimal digits are
unfoldable pub of_size : ℕ → Option ℕ → Option ℕ
of_size size (Some n) = pick (eqb (decimal_size n) size) (Some n) None
of_size size None = None

unfoldable pub decimal_of : List ℕ → Option ℕ
decimal_of l = of_size (length l) (number_from 10 0 l)

unfoldable pub hex_word_of : List ℕ → Option ℕ
hex_word_of l = pick (eqb (length l) 8) (number_from 16 0 l) None

-- whether a text is bytes in hex
unfoldable pub is_hex : List ℕ → Bool
is_hex [] = true
is_hex (c ∷ []) = false
is_hex (c ∷ e ∷ l) = both (ltb (digit_value c) 16) (both (ltb (digit_value e) 16) (is_hex l))

-- the bytes of such a text
unfoldable pub hex_bytes_of : List ℕ → List ℕ
hex_bytes_of [] = []
hex_bytes_of (c ∷ []) = []
hex_bytes_of (c ∷ e ∷ l) = (digit_value c * 16 + digit_value e) ∷ hex_bytes_of l
