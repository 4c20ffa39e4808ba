-- What the functions inside the listing promise each other. No public statement rests on it.
use Rattle.std.specs.Prelude.{ℕ, ◌+◌, ◌≤◌, Bool, List, [], ◌∷◌, ◌++◌, ◌≡◌, length, take, drop}
use Rattle.choice.specs.Choice.{pick}
use Rattle.text.specs.Text.{decimal, address_text}
use Rattle.listing.specs.declared.fields.Field.{Field}
use Rattle.listing.specs.declared.fields.Field.TheVariants.{Byte, Decimal, Hex}
use Rattle.listing.specs.Texts.{texts}

-- ---- The fields that the writers cut a line into: its letter and its newline, and each field with the tab before it

unfoldable pub field_text : Field → List ℕ
field_text (Byte b) = b ∷ []
field_text (Decimal n) = 9 ∷ decimal n
field_text (Hex address) = 9 ∷ address_text address

unfoldable pub fields_text : List Field → List ℕ
fields_text fields = texts (λ (i : ℕ). field_text) 0 fields

-- ---- The entries: what has a line of its own, where it is live

abbrev pub entry_text : {E : Type 0} → (ℕ → E → Bool) → (ℕ → E → List ℕ) → ℕ → ℕ → E → List ℕ
entry_text live line clock k entry = pick (live clock entry) (line k entry) []

unfoldable pub entries_text : {E : Type 0} → (ℕ → E → Bool) → (ℕ → E → List ℕ) → ℕ → ℕ → List E → List ℕ
entries_text live line clock k entries = texts (λ (i : ℕ). entry_text live line clock k) 0 entries

-- the text was put at the place, the rest is as it was, and the next text's place is answered
pub record Put (text : List ℕ) (place : ℕ) (before after : List ℕ) (next : ℕ) : Type 0 where
  pub fits : place + length text ≤ length before
  pub is : after ≡ take place before ++ text ++ drop (place + length text) before
  pub then : next ≡ place + length text
