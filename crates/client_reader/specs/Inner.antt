-- What the functions inside the reader promise each other: the fields at their places, and the test that writing them makes the bytes.
-- That this is exact reading is proved (`exact` in proofs/Laws.antt), so that no reader needs to believe it.
use Rattle.std.specs.Prelude.{ℕ, zero, suc, ◌+◌, ◌-◌, ◌*◌, ◌/◌, Bool, true, false, Option, Some, None, List, [], ◌∷◌, ◌++◌, length, replicate, leb, ltb, eqb}
use Rattle.std.specs.Int.Bits.{bit_xor}
use Rattle.wire.specs.Wire.{num}
use Rattle.choice.specs.Choice.{pick, both}
use Rattle.stun.specs.declared.kinds.Method.{Method}
use Rattle.stun.specs.declared.kinds.Method.TheVariants.{Allocate, Refresh, CreatePermission, ChannelBind}
use Rattle.stun.specs.declared.kinds.MessageKind.{MessageKind}
use Rattle.stun.specs.declared.kinds.MessageKind.TheVariants as Kind
use Rattle.stun.specs.AttributeNumbers as attribute
use Rattle.stun.specs.Kinds.{cookie, cookie_high, data_type, message_kind_of}
use Rattle.stun.specs.Values.{transaction_id_of, peer_or_nobody, address_at}
use Rattle.slot.specs.Slot.{is_channel_number}
use Rattle.client_reader.specs.declared.Message.{Message}
use Rattle.client_reader.specs.declared.Message.TheVariants.{AllocateSuccess, RefreshSuccess, BareSuccess, Error, UnknownAttributes, DataIndication, ChannelData}
use Rattle.client_reader.specs.Fields.{written}

-- m where the test holds, else none
abbrev pub when : Bool → Option Message → Option Message
when test m = pick test m None

-- ---- The fields at their places

-- XOR-RELAYED-ADDRESS stands at 20, LIFETIME at 32, XOR-MAPPED-ADDRESS at 40, the value of each 4 bytes further on
unfoldable pub allocate_fields : List ℕ → Option Message
allocate_fields s =
    when (leb 44 (length s))
    (Some (AllocateSuccess (transaction_id_of s) (bit_xor (num s 28 4) cookie) (bit_xor (num s 26 2) cookie_high) (num s 36 4) (peer_or_nobody (address_at s 44 (length s - 44)))))

-- LIFETIME stands at 20
unfoldable pub refresh_fields : List ℕ → Option Message
refresh_fields s = when (leb 28 (length s)) (Some (RefreshSuccess (transaction_id_of s) (num s 24 4)))

unfoldable pub bare_fields : Method → List ℕ → Option Message
bare_fields method s = Some (BareSuccess method (transaction_id_of s))

-- count types from at on
unfoldable pub types_from : List ℕ → ℕ → ℕ → List ℕ
types_from s at zero = []
types_from s at (suc count) = num s at 2 ∷ types_from s (at + 2) count

-- the types of a 420, in an array of 16: UNKNOWN-ATTRIBUTES stands at 28
unfoldable pub types_of : List ℕ → ℕ → List ℕ
types_of s count = types_from s 32 count ++ replicate (16 - count) 0

-- whether each number is below the bound
unfoldable pub all_below : ℕ → List ℕ → Bool
all_below bound [] = true
all_below bound (n ∷ rest) = both (ltb n bound) (all_below bound rest)

-- whether one to 16 types are within the bytes
unfoldable pub count_fits : ℕ → List ℕ → Bool
count_fits count s = both (leb 1 count) (both (leb count 16) (leb (32 + count * 2) (length s)))

-- a 420 with these types
abbrev pub unknown_of : Method → List ℕ → ℕ → List ℕ → Message
unknown_of method s count types = UnknownAttributes method (transaction_id_of s) types count

unfoldable pub unknown_fields : Method → List ℕ → ℕ → Option Message
unknown_fields method s count = when (count_fits count s) (when (all_below 0x8000 (types_of s count)) (Some (unknown_of method s count (types_of s count))))

-- 'ERROR-CODE 0x0009, 4 bytes: 0, 0, hundreds, rest'
unfoldable pub code_of : List ℕ → ℕ
code_of s = num s 26 1 * 100 + num s 27 1

-- an error that carries no types
unfoldable pub plain_error_fields : Method → List ℕ → ℕ → Option Message
plain_error_fields method s code = when (both (leb 300 code) (leb code 699)) (Some (Error method (transaction_id_of s) code))

unfoldable pub error_fields : Method → List ℕ → Option Message
error_fields method s =
    when (leb 28 (length s))
    (pick (eqb (code_of s) 420)
    (when (leb 32 (length s)) (unknown_fields method s (num s 30 2 / 2)))
    (plain_error_fields method s (code_of s)))

-- data of len bytes from start on, up to 1500 bytes and within the bytes
unfoldable pub data_fits : ℕ → ℕ → List ℕ → Bool
data_fits start len s = both (leb len 1500) (leb (start + len) (length s))

-- XOR-PEER-ADDRESS stands at 20, DATA at 32
abbrev pub indication_of : List ℕ → Message
indication_of s = DataIndication (transaction_id_of s) (bit_xor (num s 28 4) cookie) (bit_xor (num s 26 2) cookie_high) 36 (num s 34 2)

unfoldable pub indication_fields : List ℕ → Option Message
indication_fields s = when (leb 36 (length s)) (when (data_fits 36 (num s 34 2) s) (Some (indication_of s)))

unfoldable pub channel_fields : List ℕ → Option Message
channel_fields s = when (data_fits 4 (num s 2 2) s) (Some (ChannelData (num s 0 2) 4 (num s 2 2)))

abbrev pub success_fields : Method → List ℕ → Option Message
success_fields Allocate s = allocate_fields s
success_fields Refresh s = refresh_fields s
success_fields CreatePermission s = bare_fields CreatePermission s
success_fields ChannelBind s = bare_fields ChannelBind s

abbrev pub stun_fields : MessageKind → List ℕ → Option Message
stun_fields (Kind.Request method) s = None
stun_fields (Kind.Success method) s = success_fields method s
stun_fields (Kind.Error method) s = error_fields method s
stun_fields Kind.SendIndication s = None
stun_fields Kind.DataIndication s = indication_fields s
stun_fields Kind.Other s = None

-- 'channels 0x4000 to 0x4FFF'
unfoldable pub fields_of : List ℕ → Option Message
unfolding is_channel_number
fields_of s =
    when (leb 4 (length s))
    (pick (is_channel_number (num s 0 2)) (channel_fields s) (when (leb 20 (length s)) (stun_fields (message_kind_of (num s 0 2)) s)))

-- ---- The test

-- whether two lists of bytes are the same
unfoldable pub same_bytes : List ℕ → List ℕ → Bool
same_bytes [] [] = true
same_bytes [] (b ∷ y) = false
same_bytes (a ∷ x) [] = false
same_bytes (a ∷ x) (b ∷ y) = both (eqb a b) (same_bytes x y)

-- m where writing it makes the bytes
unfoldable pub checked : Option Message → List ℕ → Option Message
checked None s = None
checked (Some m) s = when (same_bytes (written m s) s) (Some m)

-- ---- What is tested around the data

-- the numbers of a Data indication that are no fields: the cookie, the types of the message and of its data, and the type, the length
-- and the family of its address
unfoldable pub indication_head : List ℕ → Bool
indication_head s =
    both (eqb (num s 4 4) cookie)
    (both (both (eqb (num s 0 2) data_type) (eqb (num s 32 2) attribute.«data»)) (both (eqb (num s 20 2) attribute.xor_peer_address) (both (eqb (num s 22 2) 8) (eqb (num s 24 2) 1))))
