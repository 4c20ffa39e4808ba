-- The lines of the call program, run one after another, as a list of calls.
use Rattle.std.specs.Prelude.{ℕ, ◌≤◌, ◌≡◌, List, [], ◌∷◌, length, take}
use Rattle.interface.specs.declared.incoming.Call.{Call}
use Rattle.state.specs.State.{State}
use Rattle.interface.specs.Sending.{sent}
use Rattle.script.specs.Answers.{answer_of, bad_answer}
use Rattle.lines.specs.Lines.{Line, bad, asks, line_of}
use Rattle.script.specs.Run.{Runs}
use Rattle.history.specs.Events.{Event}

-- a line and its answer, as characters
pub record Row : Type 0 where
  pub line : List ℕ
  pub answer : List ℕ

-- `run_line` was called with the line, and with room for its answer, and did what it promises
pub record Ran (before : State) (row : Row) (after : State) : Type 0 where
  pub output : List ℕ
  pub output' : List ℕ
  pub size : ℕ
  pub room : 4096 ≤ length output
  pub runs : Runs (line_of row.line) before after output output' size
  pub answered : row.answer ≡ take size output'

-- one line after another: 'each gets the relay as the last one left it'
abbrev pub RanAll : (first : State) → List Row → (last : State) → Type 0
RanAll first [] last = first ≡ last
RanAll first (row ∷ rest) last = (after : State) × Ran first row after × RanAll after rest last

-- the event of a line's call, as the answer shows it
pub record Shows (call : Call) (datagram answer : List ℕ) (e : Event) : Type 0 where
  pub call_is : e.arrival.call ≡ call
  pub datagram_is : e.arrival.datagram ≡ datagram
  pub answer_is : answer ≡ answer_of e.outcome (sent e.outcome datagram e.reply)

-- '`E` where a line isn't of these forms ..; it changes nothing': such a line is no event
abbrev pub FromLine : Line → (answer : List ℕ) → (List Event → Type 0) → List Event → Type 0
FromLine bad answer others list = (answer ≡ bad_answer) × others list
FromLine (asks call datagram) answer others list = (e : Event) × (rest : List Event) × (list ≡ e ∷ rest) × Shows call datagram answer e × others rest

-- the events of the lines, in their order
abbrev pub FromLines : List Row → List Event → Type 0
FromLines [] list = list ≡ []
FromLines (row ∷ rows) list = FromLine (line_of row.line) row.answer (FromLines rows) list
