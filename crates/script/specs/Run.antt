-- One line of the call program: what it is answered with, and the state after it.
use Rattle.std.specs.Prelude.{ℕ, ◌-◌, ◌≡◌, List, [], ◌++◌, leb, ltb, length, take, drop, replicate}
use Rattle.choice.specs.Choice.{pick, both}
use Rattle.interface.specs.declared.incoming.Call.{Call}
use Rattle.state.specs.State.{State}
use Rattle.state.specs.Outcomes.{Act, outcome_of, reply_after, state_after}
use Rattle.state.specs.Step.{act}
use Rattle.interface.specs.Sending.{sent}
use Rattle.script.specs.Answers.{answer_of, bad_answer}
use Rattle.lines.specs.Lines.{Line, bad, asks}

-- what a call that did this is answered with
abbrev pub shown : Act → List ℕ → List ℕ → List ℕ
shown done datagram reply = answer_of (outcome_of done) (sent (outcome_of done) datagram (reply_after reply done))

-- ---- A line

-- the call of a line has a fresh reply buffer
abbrev pub line_act : State → Call → List ℕ → Act
line_act st call datagram = act st call datagram 1536

-- 'Each line gives ..; `E` ..; it changes nothing'
abbrev pub answer_to : State → Line → List ℕ
answer_to st bad = bad_answer
answer_to st (asks call datagram) = shown (line_act st call datagram) datagram (replicate 1536 0)

abbrev pub state_to : State → Line → State
state_to st bad = st
state_to st (asks call datagram) = state_after st (line_act st call datagram)

-- the line from `start` to `end` of an input; an empty one where these are no part of it
unfoldable pub line_in : ℕ → ℕ → List ℕ → List ℕ
line_in start end input = pick (both (leb start end) (leb end (length input))) (take (end - start) (drop start input)) []

-- the answer at the front of the output, and how long it is; where the output is shorter than 4,096 bytes, nothing is done
pub record Runs (line : Line) (before after : State) (output output' : List ℕ) (r : ℕ) : Type 0 where
  pub size_is : r ≡ pick (ltb (length output) 4096) 0 (length (answer_to before line))
  pub output_is : output' ≡ pick (ltb (length output) 4096) output (answer_to before line ++ drop (length (answer_to before line)) output)
  pub state_is : after ≡ pick (ltb (length output) 4096) before (state_to before line)
