-- What the functions inside this crate and those of the crates above promise each other. No public statement rests on it.
use Rattle.std.specs.Prelude.{ℕ, ◌+◌, ◌≡◌, List, ◌++◌, length}
use Rattle.std.specs.Int.Bits.{bit_xor}
use Rattle.wire.specs.Wire.{bytes_of}
use Rattle.wire.specs.Inner.{Wrote}
use Rattle.address.specs.declared.Address.{Address}
use Rattle.address.specs.declared.Address.TheVariants.{V4, V6}
use Rattle.stun.specs.Kinds.{cookie_high}
use Rattle.messages.specs.Messages.{padding}

-- the message stands at the front of the buffer, the rest is as it was, and n is the message's length
pub record Sent (message before after : List ℕ) (n : ℕ) : Type 0 where
  pub wrote : Wrote message before after
  pub size : n ≡ length message

-- the type and the length of an attribute
unfoldable pub attribute_head : ℕ → ℕ → List ℕ
attribute_head type len = bytes_of 2 type ++ bytes_of 2 len

-- the head of an address attribute, a zero byte and the family, and the port
unfoldable pub address_head : ℕ → ℕ → ℕ → ℕ → List ℕ
unfolding attribute_head
address_head type len family port = attribute_head type len ++ bytes_of 2 family ++ bytes_of 2 (bit_xor port cookie_high)

-- the length of an address attribute
abbrev pub address_size : Address → ℕ
address_size (V4 a) = 12
address_size (V6 a b c d) = 24

-- the length of an attribute whose value has n bytes
abbrev pub attribute_size : ℕ → ℕ
attribute_size n = 4 + n + padding n
