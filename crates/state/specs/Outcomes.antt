-- Document 01's table of 'What a call gives back': the outcome, the reply buffer, and the state afterwards.
use Rattle.std.specs.Prelude.{ℕ, ◌≡◌, List}
use Rattle.refusal.specs.declared.Refusal.{Refusal}
use Rattle.refusal.specs.Refusal.{number}
use Rattle.rules.specs.declared.answer.Outcome.{Outcome}
use Rattle.rules.specs.declared.answer.Outcome.TheVariants.{Refused}
use Rattle.rules.specs.Change as rules
use Rattle.rules.specs.Change.{Out}
use Rattle.state.specs.State.{State}

-- what a call does: it is refused, or gives something out and leaves this state
pub data Act : Type 0 where
  refuse : Refusal → Act
  accept : State → Out → Act

-- its column 'Outcome'
abbrev pub outcome_of : Act → Outcome
outcome_of (refuse refusal) = Refused (number refusal)
outcome_of (accept next out) = rules.outcome_of out

-- 'Reply buffer'
abbrev pub reply_after : List ℕ → Act → List ℕ
reply_after reply (refuse refusal) = reply
reply_after reply (accept next out) = rules.reply_after reply out

-- 'Table and clock'
abbrev pub state_after : State → Act → State
state_after st (refuse refusal) = st
state_after st (accept next out) = next

-- what a function says that does it: the outcome, the state after the one before, and the reply as it leaves it
pub record Does (done : Act) (before : State) (outcome : Outcome) (after : State) (reply reply' : List ℕ) : Type 0 where
  pub outcome_is : outcome ≡ outcome_of done
  pub state_is : after ≡ state_after before done
  pub reply_is : reply' ≡ reply_after reply done
