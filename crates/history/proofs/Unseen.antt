-- What nobody sees: of two states, that later calls do not tell them apart.
use mathlib.Core.Path.{◌≡◌}
use mathlib.Core.List.{List}
use Rattle.state.specs.State.{State, clock_of, at_time}
use Rattle.history.specs.Events.{Arrival, run, events}

-- later calls are answered alike from both states, and leave them alike but for the clock
pub record Unseen (st after : State) (later : List Arrival) : Type 0 where
  pub answers : events after later ≡ events st later
  pub state : run after later ≡ at_time (clock_of (run after later)) (run st later)
