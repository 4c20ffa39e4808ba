-- The lines that the call program writes: 'Each line gives `R` number, `D`, `S` client address, port, hex, or `F` relay port, peer address,
-- port, hex; `E` where a line isn't of these forms'; and request 3: '`D` in the call program gains a field: `lapsed`, `never` or `other`.'
use Rattle.std.specs.Prelude.{ℕ, List, [], ◌∷◌}
use Rattle.address.specs.declared.TransportAddress.{TransportAddress}
use Rattle.rules.specs.declared.answer.Outcome.{Outcome}
use Rattle.rules.specs.declared.answer.Outcome.TheVariants.{Refused, DroppedLapsed, DroppedNever, DroppedOther, ToClient, ToPeer}
use Rattle.text.specs.Text.{line_text, decimal, address_text, hex_bytes}

-- address, port, hex: what goes to a client or a peer
unfoldable pub sent_to : TransportAddress → List ℕ → List (List ℕ)
sent_to peer sent = address_text peer.address ∷ decimal peer.port ∷ hex_bytes sent ∷ []

-- the line of an outcome that sends these bytes
unfoldable pub answer_of : Outcome → List ℕ → List ℕ
answer_of (Refused number) sent = line_text ((82 ∷ []) ∷ decimal number ∷ [])
-- `lapsed`, `never` and `other`
answer_of DroppedLapsed sent = line_text ((68 ∷ []) ∷ (108 ∷ 97 ∷ 112 ∷ 115 ∷ 101 ∷ 100 ∷ []) ∷ [])
answer_of DroppedNever sent = line_text ((68 ∷ []) ∷ (110 ∷ 101 ∷ 118 ∷ 101 ∷ 114 ∷ []) ∷ [])
answer_of DroppedOther sent = line_text ((68 ∷ []) ∷ (111 ∷ 116 ∷ 104 ∷ 101 ∷ 114 ∷ []) ∷ [])
answer_of (ToClient fiveTuple len) sent = line_text ((83 ∷ []) ∷ sent_to fiveTuple.client sent)
answer_of (ToPeer port peer start len) sent = line_text ((70 ∷ []) ∷ decimal port ∷ sent_to peer sent)

-- the line of a line of another form
unfoldable pub bad_answer : List ℕ
bad_answer = line_text ((69 ∷ []) ∷ [])
