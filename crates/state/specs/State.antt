-- The relay's state: 'A clock and 64 slots.' What later rules keep beside the slots is a field of `Bookkeeping`.
use Rattle.std.specs.Prelude.{ℕ, ◌≡◌, List, Result, replicate}
use Rattle.refusal.specs.declared.Refusal.{Refusal}
use Rattle.slot.specs.declared.Slot.{Slot}
use Rattle.slot.specs.Slot.{fresh_slot}
use Rattle.denied.specs.Tree.{none_denied}
use Rattle.refusal.specs.Refusal.{number_of}
use Rattle.denied.specs.Denied.{read_denied, count_of}
use Rattle.state.specs.declared.Bookkeeping.{Bookkeeping}

pub record State : Type 0 where
  pub slots : List Slot
  pub bookkeeping : Bookkeeping

abbrev pub state : List Slot → Bookkeeping → State
state slots bookkeeping = record { slots = slots; bookkeeping = bookkeeping }

-- 'Fresh: clock and every number 0'; nothing is denied
abbrev pub fresh_bookkeeping : Bookkeeping
fresh_bookkeeping = record { clock = 0; denied = none_denied }

-- 'An empty relay is a fresh one.'
abbrev pub empty : State
empty = state (replicate 64 fresh_slot) fresh_bookkeeping

abbrev pub clock_of : State → ℕ
clock_of st = st.bookkeeping.clock

-- the same but for the clock
abbrev pub at_clock : ℕ → Bookkeeping → Bookkeeping
at_clock time bookkeeping = record { clock = time; denied = bookkeeping.denied }

abbrev pub at_time : ℕ → State → State
at_time time st = state st.slots (at_clock time st.bookkeeping)

-- the same but for the tree of denied prefixes
abbrev pub with_denied : (nodes : List ℕ) → Bookkeeping → Bookkeeping
with_denied nodes bookkeeping = record { clock = bookkeeping.clock; denied = nodes }

-- the same state, where it meets that tree
abbrev pub meeting : (nodes : List ℕ) → State → State
meeting nodes st = state st.slots (with_denied nodes st.bookkeeping)

-- what became of a text of denied prefixes: the number that it is refused with, or 0; how many nodes its tree has; and what is kept afterwards
pub record Denying : Type 0 where
  pub number : ℕ
  pub count : ℕ
  pub bookkeeping : Bookkeeping

-- request 2: a text of denied prefixes is read between calls, and its tree takes the old one's place, unless it is refused
abbrev pub denying : Bookkeeping → (text : List ℕ) → Denying
denying bookkeeping text =
    let reading = read_denied text bookkeeping.denied in
    record { number = reading.number; count = reading.count; bookkeeping = with_denied reading.nodes bookkeeping }

-- the same state but for the slots
abbrev pub with_slots : List Slot → State → State
with_slots slots st = state slots st.bookkeeping

-- what became of a text, in what is given back and what is kept afterwards
pub record Denied (denying : Denying) (result : Result ℕ Refusal) (bookkeeping : Bookkeeping) : Type 0 where
  pub number_is : number_of result ≡ denying.number
  pub count_is : count_of result ≡ denying.count
  pub bookkeeping_is : bookkeeping ≡ denying.bookkeeping
