-- The lines that the call program reads: '`Q` now, user, start, client address, client port, hex; `P` now, peer address, peer port, relay
-- port, hex'.
use Rattle.std.specs.Prelude.{ℕ, List, [], ◌∷◌, eqb, ltb, length, is_some, unwrap_or}
use Rattle.choice.specs.Choice.{pick, both, lookup}
use Rattle.address.specs.declared.Address.{Address}
use Rattle.address.specs.declared.Address.TheVariants.{V4}
use Rattle.address.specs.declared.TransportAddress.{TransportAddress}
use Rattle.text.specs.Text.{is_hex, hex_bytes_of}
use Rattle.interface.specs.declared.incoming.Call.{Call}
use Rattle.interface.specs.Refusals.{client_datagram, peer_datagram}
use Rattle.lines.specs.Fields.{is_more, rest, number_up_to, is_address, address_of}

-- a line is a call with its datagram, or of neither form
pub data Line : Type 0 where
  bad : Line
  asks : Call → List ℕ → Line

abbrev pub transport_address : Address → ℕ → TransportAddress
transport_address address port = record { address = address; port = port }

-- 'Server and relay are 203.0.113.5:3478'
unfoldable pub call_from_client : (time user start : ℕ) → Address → ℕ → Call
call_from_client time user start address port =
    client_datagram time user start 3405803781 (record { client = transport_address address port; server = transport_address (V4 3405803781) 3478; protocol = 17 })

-- 'the twelve bytes are zero'
unfoldable pub call_from_peer : ℕ → Address → (port relayPort : ℕ) → Call
call_from_peer time address port relayPort = peer_datagram time (transport_address address port) relayPort (record { high = 0; middle = 0; low = 0 })

-- 'the last may be an empty hex string': a tab in it is no hex digit
unfoldable pub with_datagram : Call → List ℕ → Line
with_datagram call hex = pick (is_hex hex) (asks call (hex_bytes_of hex)) bad

-- '`Q` now, user, start, client address, client port, hex', after the letter and its tab. 'Now is below 2^64, user and start below 2^32,
-- ports below 2^16'
unfoldable pub client_line : List ℕ → Line
client_line l =
    let time = number_up_to 18446744073709551615 l in
    let user = number_up_to 4294967295 (rest 1 l) in
    let start = number_up_to 4294967295 (rest 2 l) in
    let port = number_up_to 65535 (rest 4 l) in
    pick (both (is_some time) (both (is_some user) (both (is_some start) (both (is_address (rest 3 l)) (both (is_some port) (is_more (rest 4 l)))))))
    (with_datagram (call_from_client (unwrap_or time 0) (unwrap_or user 0) (unwrap_or start 0) (address_of (rest 3 l)) (unwrap_or port 0)) (rest 5 l))
    bad

-- '`P` now, peer address, peer port, relay port, hex'
unfoldable pub peer_line : List ℕ → Line
peer_line l =
    let time = number_up_to 18446744073709551615 l in
    let port = number_up_to 65535 (rest 2 l) in
    let relayPort = number_up_to 65535 (rest 3 l) in
    pick (both (is_some time) (both (is_address (rest 1 l)) (both (is_some port) (both (is_some relayPort) (is_more (rest 3 l))))))
    (with_datagram (call_from_peer (unwrap_or time 0) (address_of (rest 1 l)) (unwrap_or port 0) (unwrap_or relayPort 0)) (rest 4 l))
    bad

-- 81 is `Q`, 80 is `P`, 9 a tab
unfoldable pub form_of : List ℕ → Line
form_of [] = bad
form_of (letter ∷ []) = bad
form_of (letter ∷ tab ∷ l) = pick (eqb tab 9) (lookup letter ((81, client_line l) ∷ (80, peer_line l) ∷ []) bad) bad

-- '`E` where a line isn't of these forms or exceeds 3,200 characters'
unfoldable pub line_of : List ℕ → Line
line_of l = pick (ltb 3200 (length l)) bad (form_of l)
