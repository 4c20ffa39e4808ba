-- Request 2's 'leading bit strings of a listed prefix', the strings that the nodes of a tree stand for.
use Rattle.std.specs.Prelude.{ℕ, ◌+◌, ◌-◌, ◌*◌, ◌/◌, ◌^◌, ◌≤◌, ◌<◌, ◌≡◌, ◌⊎◌, ◌↔◌, true, length, get_or}
use mathlib.Core.List.{List, Memᴰ}
use Rattle.denied.specs.Prefixes.{Line, prefix}
use Rattle.denied.specs.Tree.{child_of, is_listed}

-- a bit string: how many bits it has, and the number that they are
pub record BitString : Type 0 where
  pub bits : ℕ
  pub value : ℕ

abbrev pub string : (bits value : ℕ) → BitString
string bits value = record { bits = bits; value = value }

abbrev pub empty_string : BitString
empty_string = string 0 0

-- the first bits of an address
abbrev pub leading : (address bits : ℕ) → BitString
leading address bits = string bits (address / 2 ^ (32 - bits))

-- the string with a bit more
abbrev pub longer : BitString → (bit : ℕ) → BitString
longer w bit = string (w.bits + 1) (2 * w.value + bit)

-- 'leading bit string of a listed prefix, the empty string always among them'
abbrev pub Leads : List Line → BitString → Type 0
Leads lines w = (w ≡ empty_string) ⊎ ((address length : ℕ) × Memᴰ (prefix address length) lines × (w.bits ≤ length) × (w ≡ leading address w.bits))

-- a whole listed prefix
abbrev pub Listed : List Line → BitString → Type 0
Listed lines w = (address length : ℕ) × Memᴰ (prefix address length) lines × (w ≡ leading address length)

abbrev pub string_at : List BitString → ℕ → BitString
string_at strings k = get_or strings k empty_string

-- the nodes of a tree, one for each of these strings: 'one node for each different leading bit string'
pub record StandsFor (lines : List Line) (nodes : List ℕ) (count : ℕ) (strings : List BitString) : Type 0 where
  pub as_many : length strings ≡ count
  pub at_most : count ≤ 512
  pub first : string_at strings 0 ≡ empty_string
  pub different : (i j : ℕ) → i < count → j < count → string_at strings i ≡ string_at strings j → i ≡ j
  pub leads : (w : BitString) → Memᴰ w strings ↔ Leads lines w
  pub children : (k bit j : ℕ) → k < count → bit < 2 → ((child_of nodes k bit ≡ j) × (0 < j)) ↔ ((j < count) × (string_at strings j ≡ longer (string_at strings k) bit))
  pub listed : (k : ℕ) → k < count → (is_listed nodes k ≡ true) ↔ Listed lines (string_at strings k)
