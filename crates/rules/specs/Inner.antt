-- What the functions inside this crate and those of the crates above promise each other. No public statement rests on it.
use Rattle.std.specs.Prelude.{ℕ, ◌≡◌, List, Option, Some, None}
use Rattle.std.specs.Borrow.{Bor}
use Rattle.slot.specs.declared.Slot.{Slot}
use Rattle.slot.specs.Slot.{fresh_slot}
use Rattle.rules.specs.declared.answer.Outcome.{Outcome}
use Rattle.rules.specs.declared.answer.Answer.{Answer}
use Rattle.rules.specs.Change.{Out, Change, keep, write, out_of, outcome_of, reply_after}

-- the slot that is written, where one is
abbrev pub slot_written : Change → Option Slot
slot_written (keep out) = None
slot_written (write slot out) = Some slot

-- what a function that gives something out says: the outcome, and the reply as it leaves it
pub record Gives (out : Out) (before after : List ℕ) (outcome : Outcome) : Type 0 where
  pub outcome_is : outcome ≡ outcome_of out
  pub reply_is : after ≡ reply_after before out

-- and one that decides about a slot: whether it is written, and with what
pub record Answers (change : Change) (before after : List ℕ) (answer : Answer) : Type 0 where
  pub gives : Gives (out_of change) before after answer.outcome
  pub written : answer.written ≡ slot_written change

-- the slot that was found, or a fresh one where none was
abbrev pub slot_or_fresh : Option (Bor Slot) → Slot
slot_or_fresh (Some slot) = slot.now
slot_or_fresh None = fresh_slot
