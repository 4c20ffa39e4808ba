-- The bytes of every message that the relay sends: STUN's header and attributes (RFC 8489, 5 and 14), the responses of document 01's
-- 'Requests', and the Data indication and ChannelData of its 'Data'.
use Rattle.std.specs.Prelude.{ℕ, ◌+◌, ◌-◌, ◌*◌, ◌/◌, ◌%◌, List, [], ◌∷◌, ◌++◌, length, replicate}
use Rattle.std.specs.Int.Bits.{bit_xor}
use Rattle.wire.specs.Wire.{bytes_of}
use Rattle.address.specs.declared.Address.{Address}
use Rattle.address.specs.declared.Address.TheVariants.{V4, V6}
use Rattle.address.specs.declared.TransportAddress.{TransportAddress}
use Rattle.address.specs.declared.TransactionId.{TransactionId}
use Rattle.stun.specs.declared.kinds.Method.{Method}
use Rattle.stun.specs.declared.kinds.Method.TheVariants.{Allocate, Refresh}
use Rattle.stun.specs.AttributeNumbers as attribute
use Rattle.stun.specs.Kinds.{cookie, cookie_high, success_type, error_type, data_type}

-- ---- The parts of a message

unfoldable pub transaction_id_bytes : TransactionId → List ℕ
transaction_id_bytes id = bytes_of 4 id.high ++ bytes_of 4 id.middle ++ bytes_of 4 id.low

-- the 20 bytes of a header: type, length of what follows, cookie, transaction id
unfoldable pub header_bytes : ℕ → ℕ → TransactionId → List ℕ
unfolding transaction_id_bytes
header_bytes type len id = bytes_of 2 type ++ bytes_of 2 len ++ bytes_of 4 cookie ++ transaction_id_bytes id

-- how many zeros follow a value of n bytes: 'padding to 4'
abbrev pub padding : ℕ → ℕ
padding n = (n + 3) / 4 * 4 - n

-- 'each attribute (16-bit type, 16-bit length, value, padding to 4)'; what the relay writes is 'zero padded'
unfoldable pub attribute_bytes : ℕ → List ℕ → List ℕ
attribute_bytes type value = bytes_of 2 type ++ bytes_of 2 (length value) ++ value ++ replicate (padding (length value)) 0

-- the header, whose length is that of the attributes, and the attributes
unfoldable pub message_bytes : ℕ → TransactionId → List ℕ → List ℕ
unfolding header_bytes
message_bytes type id attributes = header_bytes type (length attributes) id ++ attributes

-- ---- The attributes

-- 'Address value: zero byte .., family .., port XOR 0x2112, address XOR the cookie, for IPv6 XOR cookie then transaction id.'
unfoldable pub address_value : TransactionId → Address → ℕ → List ℕ
address_value id (V4 a) port = bytes_of 2 1 ++ bytes_of 2 (bit_xor port cookie_high) ++ bytes_of 4 (bit_xor a cookie)
address_value id (V6 a b c d) port =
    bytes_of 2 2
    ++ bytes_of 2 (bit_xor port cookie_high)
    ++ bytes_of 4 (bit_xor a cookie)
    ++ bytes_of 4 (bit_xor b id.high)
    ++ bytes_of 4 (bit_xor c id.middle)
    ++ bytes_of 4 (bit_xor d id.low)

-- XOR-RELAYED-ADDRESS, XOR-MAPPED-ADDRESS or XOR-PEER-ADDRESS
unfoldable pub address_attribute : ℕ → TransactionId → Address → ℕ → List ℕ
unfolding attribute_bytes address_value
address_attribute type id address port = attribute_bytes type (address_value id address port)

-- LIFETIME: 'the number is in .. all 4'
unfoldable pub lifetime_attribute : ℕ → List ℕ
unfolding attribute_bytes
lifetime_attribute seconds = attribute_bytes attribute.lifetime (bytes_of 4 seconds)

-- 'ERROR-CODE 0x0009, 4 bytes: 0, 0, hundreds, rest; no phrase'
unfoldable pub error_code_attribute : ℕ → List ℕ
unfolding attribute_bytes
error_code_attribute code = attribute_bytes attribute.error_code (bytes_of 2 0 ++ bytes_of 1 (code / 100) ++ bytes_of 1 (code % 100))

-- each type in 2 bytes
unfoldable pub types_bytes : List ℕ → List ℕ
types_bytes [] = []
types_bytes (t ∷ types) = bytes_of 2 t ++ types_bytes types

-- 'UNKNOWN-ATTRIBUTES 0x000A: the first 16 unknown types as met, repeats kept, zero padding'
unfoldable pub unknown_attribute : List ℕ → List ℕ
unfolding attribute_bytes types_bytes
unknown_attribute types = attribute_bytes attribute.unknown_attributes (types_bytes types)

-- DATA
unfoldable pub data_attribute : List ℕ → List ℕ
unfolding attribute_bytes
data_attribute payload = attribute_bytes attribute.«data» payload

-- ---- The messages

-- Allocate: 'Reply: XOR-RELAYED-ADDRESS 0x0016, LIFETIME, XOR-MAPPED-ADDRESS 0x0020 (the client).'
unfoldable pub allocate_success : TransactionId → ℕ → ℕ → ℕ → TransportAddress → List ℕ
unfolding message_bytes address_attribute lifetime_attribute
allocate_success id relay port seconds client =
    message_bytes (success_type Allocate) id
    (address_attribute attribute.xor_relayed_address id (V4 relay) port ++ lifetime_attribute seconds ++ address_attribute attribute.xor_mapped_address id client.address client.port)

-- Refresh: 'Reply: LIFETIME granted.'
unfoldable pub refresh_success : TransactionId → ℕ → List ℕ
unfolding message_bytes lifetime_attribute
refresh_success id seconds = message_bytes (success_type Refresh) id (lifetime_attribute seconds)

-- 'CreatePermission and ChannelBind succeed with a bare 20-byte header.'
unfoldable pub bare_success : Method → TransactionId → List ℕ
unfolding message_bytes
bare_success method id = message_bytes (success_type method) id []

-- 'An error carries ERROR-CODE'
unfoldable pub error_response : Method → TransactionId → ℕ → List ℕ
unfolding message_bytes error_code_attribute
error_response method id code = message_bytes (error_type method) id (error_code_attribute code)

-- 'A 420 adds UNKNOWN-ATTRIBUTES'
unfoldable pub unknown_response : Method → TransactionId → List ℕ → List ℕ
unfolding message_bytes error_code_attribute unknown_attribute
unknown_response method id types = message_bytes (error_type method) id (error_code_attribute 420 ++ unknown_attribute types)

-- 'a Data indication 0x0017 with XOR-PEER-ADDRESS then DATA, zero padded'
unfoldable pub data_indication : TransactionId → ℕ → ℕ → List ℕ → List ℕ
unfolding message_bytes address_attribute data_attribute
data_indication id peer port payload = message_bytes data_type id (address_attribute attribute.xor_peer_address id (V4 peer) port ++ data_attribute payload)

-- 'ChannelData: number, length, data', 'without padding'
unfoldable pub channel_data : ℕ → List ℕ → List ℕ
channel_data number payload = bytes_of 2 number ++ bytes_of 2 (length payload) ++ payload
