-- The numbers of document 01's 'Reading a client's datagram', and the kinds that they stand for.
use Rattle.std.specs.Prelude.{ℕ, ◌+◌, Bool, true, false, ◌&&◌, List, [], ◌∷◌, leb}
use Rattle.choice.specs.Choice.{pick, lookup}
use Rattle.stun.specs.declared.kinds.Class.{Class}
use Rattle.stun.specs.declared.kinds.Class.TheVariants.{Stun, ChannelData, Neither}
use Rattle.stun.specs.declared.kinds.Method.{Method}
use Rattle.stun.specs.declared.kinds.Method.TheVariants.{Allocate, Refresh, CreatePermission, ChannelBind}
use Rattle.stun.specs.declared.kinds.MessageKind.{MessageKind}
use Rattle.stun.specs.declared.kinds.MessageKind.TheVariants.{Request, Success, Error, SendIndication, DataIndication, Other}
use Rattle.stun.specs.declared.kinds.AttributeKind.{AttributeKind}
use Rattle.stun.specs.declared.kinds.AttributeKind.TheVariants as Is
use Rattle.stun.specs.AttributeNumbers as attribute

-- 'cookie 0x2112A442', and its upper half: 'port XOR 0x2112'
abbrev pub cookie : ℕ
cookie = 0x2112_a442

abbrev pub cookie_high : ℕ
cookie_high = 0x2112

-- 'The first byte sorts it: 0 to 3 STUN, 64 to 79 ChannelData, all else dropped'
abbrev pub class_of : ℕ → Class
class_of n = pick (leb n 3) Stun (pick (leb 64 n && leb n 79) ChannelData Neither)

-- 'Types read: 0x0003 Allocate, 0x0004 Refresh, 0x0008 CreatePermission, 0x0009 ChannelBind, 0x0016 Send indication.'
abbrev pub request_type : Method → ℕ
request_type Allocate = 0x0003
request_type Refresh = 0x0004
request_type CreatePermission = 0x0008
request_type ChannelBind = 0x0009

abbrev pub send_type : ℕ
send_type = 0x0016

-- 'a Data indication 0x0017'
abbrev pub data_type : ℕ
data_type = 0x0017

-- 'Success adds 0x0100 to a request's type, error 0x0110.'
abbrev pub success_type : Method → ℕ
success_type m = request_type m + 0x0100

abbrev pub error_type : Method → ℕ
error_type m = request_type m + 0x0110

-- 'Other types are dropped.' Successes, errors and the Data indication are what the relay itself sends
abbrev pub message_kinds : List (ℕ × MessageKind)
message_kinds =
    (request_type Allocate, Request Allocate)
    ∷ (request_type Refresh, Request Refresh)
    ∷ (request_type CreatePermission, Request CreatePermission)
    ∷ (request_type ChannelBind, Request ChannelBind)
    ∷ (send_type, SendIndication)
    ∷ (data_type, DataIndication)
    ∷ (success_type Allocate, Success Allocate)
    ∷ (success_type Refresh, Success Refresh)
    ∷ (success_type CreatePermission, Success CreatePermission)
    ∷ (success_type ChannelBind, Success ChannelBind)
    ∷ (error_type Allocate, Error Allocate)
    ∷ (error_type Refresh, Error Refresh)
    ∷ (error_type CreatePermission, Error CreatePermission)
    ∷ (error_type ChannelBind, Error ChannelBind)
    ∷ []

abbrev pub message_kind_of : ℕ → MessageKind
message_kind_of n = lookup n message_kinds Other

-- 'Attributes read', and then 'Known and skipped'
abbrev pub attribute_kinds : List (ℕ × AttributeKind)
attribute_kinds =
    (attribute.channel_number, Is.ChannelNumber)
    ∷ (attribute.lifetime, Is.Lifetime)
    ∷ (attribute.xor_peer_address, Is.XorPeerAddress)
    ∷ (attribute.«data», Is.Data)
    ∷ (attribute.requested_address_family, Is.RequestedAddressFamily)
    ∷ (attribute.requested_transport, Is.RequestedTransport)
    ∷ (attribute.mapped_address, Is.Skipped)
    ∷ (attribute.username, Is.Skipped)
    ∷ (attribute.message_integrity, Is.Skipped)
    ∷ (attribute.error_code, Is.Skipped)
    ∷ (attribute.unknown_attributes, Is.Skipped)
    ∷ (attribute.realm, Is.Skipped)
    ∷ (attribute.nonce, Is.Skipped)
    ∷ (attribute.xor_relayed_address, Is.Skipped)
    ∷ (attribute.message_integrity_sha256, Is.Skipped)
    ∷ (attribute.password_algorithm, Is.Skipped)
    ∷ (attribute.userhash, Is.Skipped)
    ∷ (attribute.xor_mapped_address, Is.Skipped)
    ∷ []

-- 'Other types below 0x8000 are unknown; 0x8000 and above are skipped.'
unfoldable pub attribute_kind_of : ℕ → AttributeKind
attribute_kind_of n = lookup n attribute_kinds (pick (leb 0x8000 n) Is.Skipped Is.Unknown)

abbrev pub unknown_kind : AttributeKind → Bool
unknown_kind Is.ChannelNumber = false
unknown_kind Is.Lifetime = false
unknown_kind Is.XorPeerAddress = false
unknown_kind Is.Data = false
unknown_kind Is.RequestedAddressFamily = false
unknown_kind Is.RequestedTransport = false
unknown_kind Is.Skipped = false
unknown_kind Is.Unknown = true
