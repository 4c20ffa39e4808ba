-- What the functions that decide promise each other and the relay. No public statement rests on it.
use Rattle.std.specs.Prelude.{ℕ, ◌^◌, ◌≤◌, Bool, true, false, List, ◌≡◌, length, None}
use Rattle.choice.specs.Choice.{pick}
use Rattle.slot.specs.declared.Slot.{Slot}
use Rattle.std.specs.Prelude.{Option, Some, None}
use Rattle.std.specs.Option.{is_some}
use Rattle.std.specs.Borrow.{Bor}
use Rattle.slot.specs.Search.{has, at_or}
use Rattle.slot.specs.Slot.{fresh_slot}
use Rattle.table.specs.declared.keys.Key.{Key}
use Rattle.table.specs.declared.keys.Wanted.{Wanted}
use Rattle.table.specs.declared.surveys.Survey.{Survey}
use Rattle.table.specs.Inner.{place_of, searched, Looked}
use Rattle.rules.specs.declared.answer.Answer.{Answer}
use Rattle.rules.specs.declared.answer.Outcome.{Outcome}
use Rattle.decisions.specs.declared.client.Asked.{Asked}
use Rattle.rules.specs.Change.{Change}
use Rattle.rules.specs.Inner.{Answers, slot_or_fresh}
use Rattle.decisions.specs.Client.{asked_by}
use Rattle.interface.specs.declared.incoming.Call.{Call}
use Rattle.interface.specs.declared.incoming.Call.TheVariants.{Client, Peer}
use Rattle.interface.specs.declared.incoming.FromClient.{FromClient}
use Rattle.interface.specs.declared.incoming.FromPeer.{FromPeer}
use Rattle.decisions.specs.declared.Asking.{Asking}
use Rattle.decisions.specs.declared.Seen.{Seen}
use Rattle.decisions.specs.Decisions.{names_denied}

-- ---- What a call that is not refused has: the rules ask for it
pub record ReadyClient (call : FromClient) (datagram reply : List ℕ) : Type 0 where
  pub room : 1536 ≤ length reply
  pub soon : call.time ≤ 2 ^ 40
  pub user : call.user ≤ 32

pub record ReadyPeer (call : FromPeer) (datagram reply : List ℕ) : Type 0 where
  pub room : 1536 ≤ length reply
  pub short : length datagram ≤ 1500

abbrev pub Ready : Call → List ℕ → List ℕ → Type 0
Ready (Client call) datagram reply = ReadyClient call datagram reply
Ready (Peer call) datagram reply = ReadyPeer call datagram reply

abbrev pub UserFits : Call → Type 0
UserFits (Client call) = call.user ≤ 32
UserFits (Peer call) = Unit

-- ---- What is asked, and the look over the slots that it needs

-- a peer's datagram asks nothing of the relay
abbrev pub asked_for : Call → List ℕ → Asked
asked_for (Client call) s = asked_by s
asked_for (Peer call) s = Asked.Nothing

-- whether an allocation is to be made
abbrev pub allocates : Asked → Bool
allocates Asked.Allocate = true
allocates Asked.Refresh = false
allocates Asked.CreatePermission = false
allocates Asked.ChannelBind = false
allocates Asked.Send = false
allocates Asked.ChannelData = false
allocates Asked.Nothing = false

-- whether it is data, by which no slot is written
abbrev pub is_data : Asked → Bool
is_data Asked.Allocate = false
is_data Asked.Refresh = false
is_data Asked.CreatePermission = false
is_data Asked.ChannelBind = false
is_data Asked.Send = true
is_data Asked.ChannelData = true
is_data Asked.Nothing = true

abbrev pub wanted_by : Call → Asked → Wanted
wanted_by (Client call) asked = record { time = call.time; key = Key.Client call.five_tuple; room_for = pick (allocates asked) (Some call.user) None }
wanted_by (Peer call) asked = record { time = call.time; key = Key.Port call.port; room_for = None }

abbrev pub asking : Asked → Bool → Asking
asking asked denied = record { asked = asked; denied = denied }

abbrev pub asking_of : (nodes : List ℕ) → Call → List ℕ → Asking
asking_of nodes call s = asking (asked_for call s) (names_denied nodes call s)

abbrev pub saw : Asking → Survey → Seen
saw asking survey = record { asked = asking.asked; denied = asking.denied; survey = survey }

-- the slot that is written
abbrev pub place_for : Asked → Survey → Option ℕ
place_for asked survey = pick (allocates asked) survey.free survey.own

abbrev pub unwritten : Outcome → Answer
unwritten outcome = record { outcome = outcome; written = None }

abbrev pub place_in : Seen → ℕ
place_in seen = place_of (place_for seen.asked seen.survey)

-- the slot at the place that was found, lent, or none
pub record Lent (slots : List Slot) (place : Option ℕ) (own : Option (Bor Slot)) : Type 0 where
  pub there : is_some own ≡ has place
  pub slot : slot_or_fresh own ≡ at_or fresh_slot place slots

-- the one that a call is about
abbrev pub Owned : List Slot → Wanted → Option (Bor Slot) → Type 0
Owned slots wanted own = Lent slots (searched wanted.time wanted.key slots) own

-- what a function says that decides about the slot that was found: it is so of every table that has this slot
abbrev pub Answering : Call → Asked → (List Slot → Change) → Option (Bor Slot) → (reply reply' : List ℕ) → Answer → Type 0
Answering call asked change own reply reply' answer =
    (slots : List Slot) → Owned slots (wanted_by call asked) own → Answers (change slots) reply reply' answer

-- and one that decides by the look over the slots besides
abbrev pub AnsweringSeen : Call → Asked → (List Slot → Change) → Survey → Option (Bor Slot) → (reply reply' : List ℕ) → Answer → Type 0
AnsweringSeen call asked change survey own reply reply' answer =
    (slots : List Slot) → Looked slots (wanted_by call asked) survey → Owned slots (wanted_by call asked) own → Answers (change slots) reply reply' answer
