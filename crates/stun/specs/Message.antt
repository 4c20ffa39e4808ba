-- Document 01's 'Reading a client's datagram': the sorting, the layout of a STUN message, and the attributes that are read.
use Rattle.std.specs.Prelude.{ℕ, zero, suc, ◌+◌, ◌-◌, ◌*◌, ◌/◌, ◌%◌, List, [], ◌∷◌, Bool, true, false, ◌&&◌, length, get_or, take, leb, eqb, Option, Some, None}
use Rattle.std.specs.List.{find}
use Rattle.wire.specs.Wire.{num}
use Rattle.choice.specs.Choice.{pick}
use Rattle.stun.specs.declared.kinds.Class.{Class}
use Rattle.stun.specs.declared.kinds.Class.TheVariants.{Neither}
use Rattle.stun.specs.declared.channel_data.ChannelMessage.{ChannelMessage}
use Rattle.stun.specs.declared.message.Attribute.{Attribute}
use Rattle.stun.specs.declared.message.Step.{Step}
use Rattle.stun.specs.declared.message.Step.TheVariants.{One, End, Short}
use Rattle.stun.specs.AttributeNumbers as attribute
use Rattle.stun.specs.Kinds.{cookie, class_of, attribute_kind_of, unknown_kind}

-- 'The first byte sorts it ..; an empty one is dropped.'
unfoldable pub sorted : List ℕ → Class
sorted s = pick (eqb (length s) 0) Neither (class_of (get_or s 0 0))

-- 'ChannelData: number, length, data; under 4 bytes, length over what follows ..: dropped; .. spare bytes are ignored'
unfoldable pub channel_data_of : List ℕ → Option ChannelMessage
channel_data_of s =
    pick (leb 4 (length s) && leb (4 + num s 2 2) (length s)) (Some (record { number = num s 0 2; start = 4; len = num s 2 2 })) None

-- ---- The layout of a message

-- where the attribute after the one at a position starts: type and length, the value, padding to 4
unfoldable pub next_at : List ℕ → ℕ → ℕ
next_at s at = at + (4 + (num s (at + 2) 2 + 3) / 4 * 4)

abbrev pub attribute_at : List ℕ → ℕ → Attribute
attribute_at s at = record { number = num s at 2; start = at + 4; len = num s (at + 2) 2 }

-- what stands at a position: nothing, an attribute that fits whole, or one that does not
unfoldable pub step_at : List ℕ → ℕ → Step
step_at s at =
    pick (leb (length s) at) End (pick (leb (at + 4) (length s) && leb (next_at s at) (length s)) (One (attribute_at s at) (next_at s at)) Short)

-- A walk over the attributes from a position on: `one` takes an attribute, and what the rest gives.
module _ {R : Type 0} (one : Attribute → R → R) (fin bad : R) where
  abbrev pub after : Step → (ℕ → R) → R
  after (One a next) go = one a (go next)
  after End go = fin
  after Short go = bad

  -- f bounds the number of attributes; the length of s is enough
  unfoldable pub walk_f : ℕ → List ℕ → ℕ → R
  walk_f zero s at = fin
  walk_f (suc f) s at = after (step_at s at) (λ next. walk_f f s next)

  unfoldable pub walk : List ℕ → ℕ → R
  walk s at = walk_f (length s) s at

-- 'each attribute (16-bit type, 16-bit length, value, padding to 4) fits whole'
abbrev pub attributes_fit : List ℕ → Bool
attributes_fit s = walk (λ a rest. rest) true false s 20

-- 'STUN: at least 20 bytes; the length field is the datagram's length less 20, a multiple of 4; cookie 0x2112A442; each attribute .. fits whole.'
unfoldable pub is_well_formed : List ℕ → Bool
is_well_formed s =
    leb 20 (length s) && eqb (num s 2 2) (length s - 20) && eqb (num s 2 2 % 4) 0 && eqb (num s 4 4) cookie && attributes_fit s

-- ---- The attributes that are read

-- MESSAGE-INTEGRITY and MESSAGE-INTEGRITY-SHA256
unfoldable pub is_integrity : ℕ → Bool
is_integrity number = pick (eqb number attribute.message_integrity) true (eqb number attribute.message_integrity_sha256)

unfoldable pub is_unknown : ℕ → Bool
is_unknown number = unknown_kind (attribute_kind_of number)

-- 'Attributes after the first 0x0008 or 0x001C are checked for fit and otherwise ignored.'
unfoldable pub attributes_from : List ℕ → ℕ → List Attribute
attributes_from s at = walk (λ a rest. pick (is_integrity a.number) [] (a ∷ rest)) [] [] s at

abbrev pub attributes : List ℕ → List Attribute
attributes s = attributes_from s 20

-- 'The first of a repeated attribute counts'
unfoldable pub first_of : ℕ → List Attribute → Option Attribute
first_of number l = find (λ (a : Attribute). eqb a.number number) l

unfoldable pub unknown_numbers : List Attribute → List ℕ
unknown_numbers [] = []
unknown_numbers (a ∷ rest) = pick (is_unknown a.number) (a.number ∷ unknown_numbers rest) (unknown_numbers rest)

-- 'the first 16 unknown types as met, repeats kept'
unfoldable pub unknown_types : List ℕ → List ℕ
unknown_types s = take 16 (unknown_numbers (attributes s))
