-- The messages that a client is sent: the bytes that their fields make, and the ranges of the fields.
-- Document 01, the end of 'Data': 'A second reader, for clients, takes any bytes and gives the fields of a success, error, Data
-- indication or ChannelData (data up to 1,500 bytes) exactly when writing those fields makes those bytes; otherwise it says none.'
use Rattle.std.specs.Prelude.{ℕ, ◌+◌, ◌-◌, ◌^◌, ◌≤◌, ◌<◌, ◌≡◌, ◌↔◌, List, [], Option, Some, None, length, get_or, take, drop, replicate}
use Rattle.wire.specs.Wire.{part_of}
use Rattle.address.specs.declared.Address.{Address}
use Rattle.address.specs.declared.Address.TheVariants.{V4, V6}
use Rattle.address.specs.declared.TransactionId.{TransactionId}
use Rattle.stun.specs.declared.kinds.Method.{Method}
use Rattle.stun.specs.declared.kinds.Method.TheVariants.{Allocate, Refresh, CreatePermission, ChannelBind}
use Rattle.messages.specs.Messages.{allocate_success, refresh_success, bare_success, error_response, unknown_response, data_indication, channel_data}
use Rattle.client_reader.specs.declared.Message.{Message}
use Rattle.client_reader.specs.declared.Message.TheVariants.{AllocateSuccess, RefreshSuccess, BareSuccess, Error, UnknownAttributes, DataIndication, ChannelData}

-- ---- The bytes that the fields make

-- what the fields of a message make; its data, len bytes from start on, lies in the bytes s that it was read from
abbrev pub written : Message → List ℕ → List ℕ
written (AllocateSuccess id relay port seconds client) s = allocate_success id relay port seconds client
written (RefreshSuccess id seconds) s = refresh_success id seconds
written (BareSuccess method id) s = bare_success method id
written (Error method id code) s = error_response method id code
written (UnknownAttributes method id types count) s = unknown_response method id (take count types)
written (DataIndication id peer port start len) s = data_indication id peer port (part_of s start len)
written (ChannelData number start len) s = channel_data number (part_of s start len)

-- the data that a message shows, a part of the bytes s that it was read from; other messages show none
abbrev pub data_of : Message → List ℕ → List ℕ
data_of (AllocateSuccess id relay port seconds client) s = []
data_of (RefreshSuccess id seconds) s = []
data_of (BareSuccess method id) s = []
data_of (Error method id code) s = []
data_of (UnknownAttributes method id types count) s = []
data_of (DataIndication id peer port start len) s = part_of s start len
data_of (ChannelData number start len) s = part_of s start len

-- ---- The ranges of the fields

abbrev pub IdFits : TransactionId → Type 0
IdFits id = (id.high < 2 ^ 32) × (id.middle < 2 ^ 32) × (id.low < 2 ^ 32)

abbrev pub AddressFits : Address → Type 0
AddressFits (V4 a) = a < 2 ^ 32
AddressFits (V6 a b c d) = (a < 2 ^ 32) × (b < 2 ^ 32) × (c < 2 ^ 32) × (d < 2 ^ 32)

-- 'CreatePermission and ChannelBind succeed with a bare 20-byte header.'
abbrev pub IsBare : Method → Type 0
IsBare Allocate = ⊥
IsBare Refresh = ⊥
IsBare CreatePermission = Unit
IsBare ChannelBind = Unit

-- 'one to 16 types below 0x8000': the first count of the array; the others are 0
pub record TypesInRange (count : ℕ) (types : List ℕ) : Type 0 where
  pub some : 1 ≤ count
  pub few : count ≤ 16
  pub size : length types ≡ 16
  pub rest : drop count types ≡ replicate (16 - count) 0
  pub below : (i : ℕ) → get_or types i 0 < 0x8000

-- the data starts behind what stands before it, is 'up to 1,500 bytes', and lies within the bytes
pub record DataInRange (first start len : ℕ) (s : List ℕ) : Type 0 where
  pub from : start ≡ first
  pub few : len ≤ 1500
  pub within : start + len ≤ length s

-- 'Fields: relayed and peer addresses IPv4, codes 300 to 699, with 420 alone one to 16 types below 0x8000, channels 0x4000 to 0x4FFF, all else free.'
-- What is free still fits the bytes that it stands in.
abbrev pub InRange : Message → List ℕ → Type 0
InRange (AllocateSuccess id relay port seconds client) s =
    IdFits id × (relay < 2 ^ 32) × (port < 2 ^ 16) × (seconds < 2 ^ 32) × AddressFits client.address × (client.port < 2 ^ 16)
InRange (RefreshSuccess id seconds) s = IdFits id × (seconds < 2 ^ 32)
InRange (BareSuccess method id) s = IdFits id × IsBare method
InRange (Error method id code) s = IdFits id × (300 ≤ code) × (code ≤ 699) × (code ≡ 420 → ⊥)
InRange (UnknownAttributes method id types count) s = IdFits id × TypesInRange count types
InRange (DataIndication id peer port start len) s = IdFits id × (peer < 2 ^ 32) × (port < 2 ^ 16) × DataInRange 36 start len s
InRange (ChannelData number start len) s = (0x4000 ≤ number) × (number ≤ 0x4fff) × DataInRange 4 start len s

-- ---- Exact reading

-- r is what the bytes s are read as
pub record Exact (s : List ℕ) (r : Option Message) : Type 0 where
  -- it 'gives the fields .. exactly when writing those fields makes those bytes'
  pub exactly : (m : Message) → (r ≡ Some m) ↔ (InRange m s × (written m s ≡ s))
  -- 'otherwise it says none'
  pub none : ((m : Message) → InRange m s → written m s ≡ s → ⊥) → r ≡ None

-- what is known of the bytes of a slice
abbrev pub Bytes : List ℕ → Type 0
Bytes s = (i : ℕ) → get_or s i 0 < 256
