-- Request 2's text: 'denied IPv4 prefixes, one a line, an address and a length from 0 to 32 written as in the listing, bits after the length
-- zero'; and which addresses a prefix covers, said of the numbers.
use Rattle.std.specs.Prelude.{ℕ, ◌-◌, ◌/◌, ◌%◌, ◌^◌, Bool, false, List, [], ◌∷◌, eqb, leb, get_or, take, drop, Option, None, Some}
use Rattle.choice.specs.Choice.{pick, both, any}
use Rattle.text.specs.Text.{hex_word_of, decimal_of}
use Rattle.denied.specs.declared.prefixes.Prefix.{Prefix}

-- a line that was read: a prefix, or none where the line is bad
abbrev pub Line : Type 0
Line = Option Prefix

abbrev pub prefix : (address length : ℕ) → Line
prefix address length = Some (record { address = address; length = length })

-- lines with a character more, at the front of the first
abbrev pub started_by : ℕ → List (List ℕ) → List (List ℕ)
started_by c [] = (c ∷ []) ∷ []
started_by c (line ∷ lines) = (c ∷ line) ∷ lines

-- the lines of a text: each ends in a newline, and 'the last newline may be missing'
unfoldable pub lines_of : List ℕ → List (List ℕ)
lines_of [] = []
lines_of (c ∷ text) = pick (eqb c 10) ([] ∷ lines_of text) (started_by c (lines_of text))

-- 'a length from 0 to 32 .., bits after the length zero'
unfoldable pub is_prefix : (address length : ℕ) → Bool
is_prefix address length = both (leb length 32) (eqb (address % 2 ^ (32 - length)) 0)

abbrev pub prefix_from : Option ℕ → Option ℕ → Line
prefix_from (Some address) (Some length) = pick (is_prefix address length) (prefix address length) None
prefix_from (Some address) None = None
prefix_from None length = None

-- 'an address and a length .. written as in the listing': eight hex digits, a tab, a decimal number
unfoldable pub line_of : List ℕ → Line
line_of line = pick (eqb (get_or line 8 0) 9) (prefix_from (hex_word_of (take 8 line)) (decimal_of (drop 9 line))) None

-- a prefix covers an address where their first bits agree, as many as its length
abbrev pub covers : Line → ℕ → Bool
covers (Some p) a = eqb (p.address / 2 ^ (32 - p.length)) (a / 2 ^ (32 - p.length))
covers None a = false

-- 'denied exactly if some listed prefix covers it'
unfoldable pub covered : List Line → ℕ → Bool
covered lines a = any (λ (line : Line). covers line a) lines
