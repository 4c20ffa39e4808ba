-- Calls, the events that they make, and what each event counts as.
use Rattle.std.specs.Prelude.{ℕ, ◌+◌, ◌<◌, ◌^◌, Bool, ◌≡◌, Option, Some, None, List, [], ◌∷◌, map, eqb, length, take}
use Rattle.wire.specs.Wire.{num}
use Rattle.choice.specs.Choice.{pick}
use Rattle.address.specs.declared.Address.{Address}
use Rattle.address.specs.declared.TransportAddress.{TransportAddress}
use Rattle.stun.specs.declared.kinds.Method.{Method}
use Rattle.stun.specs.declared.kinds.Method.TheVariants.{Allocate, Refresh, CreatePermission, ChannelBind}
use Rattle.stun.specs.Kinds.{request_type}
use Rattle.stun.specs.Values.{peer_or_nobody, peers, first_peer}
use Rattle.rules.specs.declared.answer.Outcome.{Outcome}
use Rattle.rules.specs.declared.answer.Outcome.TheVariants.{Refused, DroppedLapsed, DroppedNever, DroppedOther, ToClient, ToPeer}
use Rattle.interface.specs.declared.incoming.Call.{Call}
use Rattle.interface.specs.declared.incoming.Call.TheVariants.{Client, Peer}
use Rattle.interface.specs.declared.incoming.FromClient.{FromClient}
use Rattle.state.specs.State.{State, meeting}
use Rattle.state.specs.Outcomes.{Act, outcome_of, reply_after, state_after}
use Rattle.state.specs.Step.{act, Stepped}
use Rattle.client_reader.specs.declared.Message.{Message}
use Rattle.client_reader.specs.declared.Message.TheVariants.{AllocateSuccess, RefreshSuccess, BareSuccess, Error, UnknownAttributes, DataIndication, ChannelData}
use Rattle.client_reader.specs.Fields.{Bytes, IdFits, AddressFits}
use Rattle.client_reader.specs.Reader.{message_in}
use Rattle.history.specs.Counted.{Counted, gave, kept, allowed, nothing, without_repeats}

-- ---- Calls

abbrev pub TransportFits : TransportAddress → Type 0
TransportFits p = AddressFits p.address × (p.port < 2 ^ 16)

-- the numbers that a call brings are of their types (`crates/interface/src/incoming.rt`)
abbrev pub CallFits : Call → Type 0
CallFits (Client call) =
    (call.relay < 2 ^ 32)
    × TransportFits call.five_tuple.client
    × TransportFits call.five_tuple.server
    × (call.five_tuple.protocol < 2 ^ 8)
    × (call.time < 2 ^ 64)
    × (call.user < 2 ^ 32)
    × (call.start < 2 ^ 32)
CallFits (Peer call) = TransportFits call.source × IdFits call.id × (call.port < 2 ^ 16) × (call.time < 2 ^ 64)

-- a client's or a peer's datagram with everything it brings: 'Each call brings its own datagram and buffer'; and the tree of denied prefixes that it
-- meets, which a text read between calls may have put there
pub record Arrival : Type 0 where
  pub call : Call
  pub datagram : List ℕ
  pub reply : List ℕ
  pub denied : List ℕ
  pub call_fits : CallFits call
  pub bytes : Bytes datagram

-- ---- Events

-- a call with the outcome and the reply that came back
pub record Event : Type 0 where
  pub arrival : Arrival
  pub outcome : Outcome
  pub reply : List ℕ

-- the relay as a call meets it
abbrev pub met : State → Arrival → State
met st a = meeting a.denied st

-- an entry was called, and did what every entry promises
abbrev pub Happened : (before : State) → Event → (after : State) → Type 0
Happened before e after = Stepped (met before e.arrival) e.arrival.call e.arrival.datagram e.outcome after e.arrival.reply e.reply

-- a list of such calls: 'each gets the relay as the last one left it', but for the tree
abbrev pub Lived : (first : State) → List Event → (last : State) → Type 0
Lived first [] last = first ≡ last
Lived first (e ∷ rest) last = (after : State) × Happened first e after × Lived after rest last

-- ---- What an event counts as: 'Requests count by what they bring and what comes back, never by a slot'

-- 'CreatePermission is for every peer address it reads, ChannelBind for the first.'
abbrev pub addresses_of : List (Option TransportAddress) → List Address
addresses_of l = map (λ v. (peer_or_nobody v).address) l

-- whether a datagram is a request of the method, by the type in its header
abbrev pub asks : Method → List ℕ → Bool
asks method s = eqb (num s 0 2) (request_type method)

-- what came back counts for the method that was asked. 'XOR-RELAYED-ADDRESS there has the port given, LIFETIME the seconds granted', and a
-- permission ends at 's + 300'
abbrev pub counts_as : FromClient → List ℕ → Message → Counted
counts_as call s (AllocateSuccess id relay port seconds client) = pick (asks Allocate s) (gave call.five_tuple port call.time seconds) nothing
counts_as call s (RefreshSuccess id seconds) = pick (asks Refresh s) (kept call.five_tuple call.time seconds) nothing
counts_as call s (BareSuccess Allocate id) = nothing
counts_as call s (BareSuccess Refresh id) = nothing
counts_as call s (BareSuccess CreatePermission id) =
    pick (asks CreatePermission s) (allowed call.five_tuple (addresses_of (peers s)) (call.time + 300)) nothing
counts_as call s (BareSuccess ChannelBind id) =
    pick (asks ChannelBind s) (allowed call.five_tuple ((peer_or_nobody (first_peer s)).address ∷ []) (call.time + 300)) nothing
counts_as call s (Error method id code) = nothing
counts_as call s (UnknownAttributes method id types count) = nothing
counts_as call s (DataIndication id peer port start len) = nothing
counts_as call s (ChannelData number start len) = nothing

-- where the clients' reader reads nothing, nothing counts
abbrev pub read_as : FromClient → List ℕ → Option Message → Counted
read_as call s None = nothing
read_as call s (Some m) = counts_as call s m

-- 'accepted is one whose outcome is a success response', read off the reply's bytes by the clients' reader
abbrev pub counts_by : Call → List ℕ → Outcome → List ℕ → Counted
counts_by (Client call) s (Refused number) reply = nothing
counts_by (Client call) s DroppedLapsed reply = nothing
counts_by (Client call) s DroppedNever reply = nothing
counts_by (Client call) s DroppedOther reply = nothing
counts_by (Client call) s (ToClient fiveTuple n) reply = read_as call s (message_in (take n reply))
counts_by (Client call) s (ToPeer port peer start len) reply = nothing
counts_by (Peer call) s outcome reply = nothing

-- what an event counts as, by what was counted before it, the newest first
abbrev pub counts : List Counted → Event → Counted
counts past e = without_repeats past (counts_by e.arrival.call e.arrival.datagram e.outcome e.reply)

-- what was counted after these events, the newest first; `past` is what was counted before them
abbrev pub counted : List Counted → List Event → List Counted
counted past [] = past
counted past (e ∷ rest) = counted (counts past e ∷ past) rest

-- ---- The same, computed: what a list of calls makes of a state (`lived_run` and `lived_is` in `proofs/Demand.antt`)

-- what a call does to the relay in that state
abbrev pub acts : State → Arrival → Act
acts st a = act (met st a) a.call a.datagram (length a.reply)

-- its outcome, its reply buffer afterwards, and the relay as it leaves it
abbrev pub outcome : State → Arrival → Outcome
outcome st a = outcome_of (acts st a)

abbrev pub replied : State → Arrival → List ℕ
replied st a = reply_after a.reply (acts st a)

abbrev pub next : State → Arrival → State
next st a = state_after (met st a) (acts st a)

abbrev pub run : State → List Arrival → State
run st [] = st
run st (a ∷ rest) = run (next st a) rest

abbrev pub events : State → List Arrival → List Event
events st [] = []
events st (a ∷ rest) = record { arrival = a; outcome = outcome st a; reply = replied st a } ∷ events (next st a) rest
