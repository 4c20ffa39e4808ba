-- The words in which the checks speak of what a request carries.
use Rattle.std.specs.Prelude.{ℕ, Bool, true, false, not, List, [], ◌∷◌, eqb, length, Option, is_some}
use Rattle.address.specs.declared.Address.{Address}
use Rattle.address.specs.declared.Address.TheVariants.{V4, V6}
use Rattle.address.specs.declared.TransportAddress.{TransportAddress}
use Rattle.stun.specs.AttributeNumbers as attribute
use Rattle.stun.specs.Message.{unknown_types}
use Rattle.stun.specs.Values.{peer_or_nobody, number_value}
use Rattle.stun.specs.declared.values.NumberValue.{NumberValue}
use Rattle.stun.specs.declared.values.NumberValue.TheVariants.{Number, WrongLength, Absent}

-- 'any unknown attribute'
unfoldable pub any_unknown : List ℕ → Bool
any_unknown s = not (eqb (length (unknown_types s)) 0)

-- CHANNEL-NUMBER: 'the number is in the first 2'
abbrev pub channel_number : List ℕ → NumberValue
channel_number s = number_value 2 attribute.channel_number s

-- LIFETIME: 'all 4'
abbrev pub lifetime : List ℕ → NumberValue
lifetime s = number_value 4 attribute.lifetime s

-- REQUESTED-ADDRESS-FAMILY: 'first 1'
abbrev pub requested_family : List ℕ → NumberValue
requested_family s = number_value 1 attribute.requested_address_family s

-- REQUESTED-TRANSPORT: 'first 1'
abbrev pub requested_transport : List ℕ → NumberValue
requested_transport s = number_value 1 attribute.requested_transport s

-- 'missing or not 4 bytes'
abbrev pub missing : NumberValue → Bool
missing (Number n) = false
missing WrongLength = true
missing Absent = true

-- 'not 4 bytes', of one that is present
abbrev pub wrong_length : NumberValue → Bool
wrong_length (Number n) = false
wrong_length WrongLength = true
wrong_length Absent = false

-- 'not 17', 'not 1', of one that is present
abbrev pub other_than : ℕ → NumberValue → Bool
other_than wanted (Number n) = not (eqb n wanted)
other_than wanted WrongLength = false
other_than wanted Absent = false

-- the number, or 0 where there is none
abbrev pub number_given : NumberValue → ℕ
number_given (Number n) = n
number_given WrongLength = 0
number_given Absent = 0

abbrev pub is_ipv6 : Address → Bool
is_ipv6 (V4 a) = false
is_ipv6 (V6 a b c d) = true

abbrev pub ipv4_of : Address → ℕ
ipv4_of (V4 a) = a
ipv4_of (V6 a b c d) = 0

-- 'no peer address'
abbrev pub none : List (Option TransportAddress) → Bool
none [] = true
none (v ∷ rest) = false

unfoldable pub malformed_peer : Option TransportAddress → Bool
malformed_peer v = not (is_some v)

unfoldable pub ipv6_peer : Option TransportAddress → Bool
ipv6_peer v = is_ipv6 (peer_or_nobody v).address
