-- What the functions inside this crate and those of the crates above promise each other. No public statement rests on it.
use Rattle.std.specs.Prelude.{ℕ, ◌+◌, ◌-◌, ◌<◌, ◌≤◌, List, ◌++◌, length, replicate, All}
use Rattle.stun.specs.declared.message.Attribute.{Attribute}
use Rattle.stun.specs.declared.message.Attributes.{Attributes}
use Rattle.stun.specs.declared.message.UnknownTypes.{UnknownTypes}
use Rattle.stun.specs.declared.values.NumberValue.{NumberValue}
use Rattle.stun.specs.declared.values.NumberValue.TheVariants.{Number, WrongLength, Absent}
use Rattle.stun.specs.Message.{attributes_from, unknown_types}

-- 'the first 16 unknown types as met' in an array of 16, with their number
unfoldable pub unknowns : List ℕ → UnknownTypes
unknowns s = record { types = unknown_types s ++ replicate (16 - length (unknown_types s)) 0; count = length (unknown_types s) }

-- the attributes that an iterator has left to give
abbrev pub attributes_left : Attributes → List Attribute
attributes_left it = attributes_from it.message.now it.at

-- the values of these attributes lie within the message
abbrev pub Within : List ℕ → List Attribute → Type 0
Within s l = All (λ (a : Attribute). a.start + a.len ≤ length s) l

-- the number that was read is below a bound
abbrev pub Below : ℕ → NumberValue → Type 0
Below bound (Number n) = n < bound
Below bound WrongLength = Unit
Below bound Absent = Unit
