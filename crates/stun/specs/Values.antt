-- Document 01's 'Reading a client's datagram': the values of attributes.
use Rattle.std.specs.Prelude.{ℕ, ◌+◌, List, [], ◌∷◌, Option, Some, None, get_or, eqb}
use Rattle.std.specs.Option.{unwrap_or}
use Rattle.std.specs.Int.Bits.{bit_xor}
use Rattle.wire.specs.Wire.{num}
use Rattle.choice.specs.Choice.{pick, both}
use Rattle.address.specs.declared.Address.{Address}
use Rattle.address.specs.declared.Address.TheVariants.{V4, V6}
use Rattle.address.specs.declared.TransactionId.{TransactionId}
use Rattle.address.specs.declared.TransportAddress.{TransportAddress}
use Rattle.stun.specs.declared.message.Attribute.{Attribute}
use Rattle.stun.specs.declared.values.NumberValue.{NumberValue}
use Rattle.stun.specs.declared.values.NumberValue.TheVariants.{Number, WrongLength, Absent}
use Rattle.stun.specs.AttributeNumbers as attribute
use Rattle.stun.specs.Kinds.{cookie, cookie_high}
use Rattle.stun.specs.Message.{attributes, attributes_from, first_of}

-- the last 12 bytes of the header
unfoldable pub transaction_id_of : List ℕ → TransactionId
transaction_id_of s = record { high = num s 8 4; middle = num s 12 4; low = num s 16 4 }

-- ---- Addresses

abbrev pub at_port : Address → ℕ → TransportAddress
at_port address port = record { address = address; port = port }

-- the peer where no value names one
abbrev pub nobody : TransportAddress
nobody = at_port (V4 0) 0

-- the peer that a value names; a malformed one names nobody
abbrev pub peer_or_nobody : Option TransportAddress → TransportAddress
peer_or_nobody value = unwrap_or value nobody

-- 'port XOR 0x2112, address XOR the cookie'
unfoldable pub v4_at : List ℕ → ℕ → TransportAddress
v4_at s at = at_port (V4 (bit_xor (num s (at + 4) 4) cookie)) (bit_xor (num s (at + 2) 2) cookie_high)

-- 'for IPv6 XOR cookie then transaction id'
unfoldable pub v6_at : List ℕ → ℕ → TransportAddress
v6_at s at =
    at_port
    (V6 (bit_xor (num s (at + 4) 4) cookie) (bit_xor (num s (at + 8) 4) (num s 8 4)) (bit_xor (num s (at + 12) 4) (num s 12 4)) (bit_xor (num s (at + 16) 4) (num s 16 4)))
    (bit_xor (num s (at + 2) 2) cookie_high)

-- 'zero byte (not checked when read), family (1 with length 8, 2 with length 20; all else malformed)'
unfoldable pub address_at : List ℕ → ℕ → ℕ → Option TransportAddress
address_at s at len =
    pick (both (eqb len 8) (eqb (get_or s (at + 1) 0) 1)) (Some (v4_at s at))
    (pick (both (eqb len 20) (eqb (get_or s (at + 1) 0) 2)) (Some (v6_at s at)) None)

-- the values of the XOR-PEER-ADDRESS attributes, in order
unfoldable pub peers_of : List ℕ → List Attribute → List (Option TransportAddress)
peers_of s [] = []
peers_of s (a ∷ rest) = pick (eqb a.number attribute.xor_peer_address) (address_at s a.start a.len ∷ peers_of s rest) (peers_of s rest)

unfoldable pub peers_from : List ℕ → ℕ → List (Option TransportAddress)
peers_from s at = peers_of s (attributes_from s at)

-- 'CreatePermission reads every XOR-PEER-ADDRESS'
abbrev pub peers : List ℕ → List (Option TransportAddress)
peers s = peers_from s 20

abbrev pub head_of : List (Option TransportAddress) → Option TransportAddress
head_of [] = None
head_of (v ∷ rest) = v

-- the first of them; a missing one counts as a malformed one ('peer missing or malformed')
unfoldable pub first_peer : List ℕ → Option TransportAddress
first_peer s = head_of (peers s)

-- ---- Numbers

abbrev pub number_in : ℕ → List ℕ → Option Attribute → NumberValue
number_in width s (Some a) = pick (eqb a.len 4) (Number (num s a.start width)) WrongLength
number_in width s None = Absent

-- 'CHANNEL-NUMBER, LIFETIME, family and transport values are 4 bytes: the number is in the first 2, all 4, first 1, first 1; the rest is not checked.'
unfoldable pub number_value : ℕ → ℕ → List ℕ → NumberValue
number_value width number s = number_in width s (first_of number (attributes s))
