-- The attribute numbers of document 01, each once, by their names in RFC 8656 and RFC 8489.
use Rattle.std.specs.Prelude.{ℕ}

-- 'Attributes read: 0x000C CHANNEL-NUMBER, 0x000D LIFETIME, 0x0012 XOR-PEER-ADDRESS, 0x0013 DATA, 0x0017 REQUESTED-ADDRESS-FAMILY, 0x0019
-- REQUESTED-TRANSPORT.'
abbrev pub channel_number : ℕ
channel_number = 0x000c

abbrev pub lifetime : ℕ
lifetime = 0x000d

abbrev pub xor_peer_address : ℕ
xor_peer_address = 0x0012

abbrev pub «data» : ℕ
«data» = 0x0013

abbrev pub requested_address_family : ℕ
requested_address_family = 0x0017

abbrev pub requested_transport : ℕ
requested_transport = 0x0019

-- 'Known and skipped: 0x0001, 0x0006, 0x0008, 0x0009, 0x000A, 0x0014, 0x0015, 0x0016, 0x001C, 0x001D, 0x001E, 0x0020.'
abbrev pub mapped_address : ℕ
mapped_address = 0x0001

abbrev pub username : ℕ
username = 0x0006

abbrev pub message_integrity : ℕ
message_integrity = 0x0008

abbrev pub error_code : ℕ
error_code = 0x0009

abbrev pub unknown_attributes : ℕ
unknown_attributes = 0x000a

abbrev pub realm : ℕ
realm = 0x0014

abbrev pub nonce : ℕ
nonce = 0x0015

abbrev pub xor_relayed_address : ℕ
xor_relayed_address = 0x0016

abbrev pub message_integrity_sha256 : ℕ
message_integrity_sha256 = 0x001c

abbrev pub password_algorithm : ℕ
password_algorithm = 0x001d

abbrev pub userhash : ℕ
userhash = 0x001e

abbrev pub xor_mapped_address : ℕ
xor_mapped_address = 0x0020
