-- Demand 3, of every list of calls.
use mathlib.Core.Path.{◌≡◌, refl, sym, ◌∙◌, ap}
use mathlib.Core.List.{List, [], ◌∷◌, ◌++◌, map}
use Rattle.state.specs.State.{State, empty}
use Rattle.history.specs.Counted.{Counted}
use Rattle.history.specs.Events.{Arrival, outcome, replied, next, run, Event, events, Happened, Lived, counted}
use Rattle.history.specs.Statement.{Demand3From, Demand3}
use Rattle.history.proofs.Table.{AccountsFor}
use Rattle.history.proofs.Whole.{accounts_empty, lived_accounts, apart, delivery, nobody}

-- ---- Lists of calls

-- the state in the middle of a list
pub lived_middle : (before rest : List Event) (first last : State) → Lived first (before ++ rest) last → (st : State) × Lived first before st × Lived st rest last
lived_middle [] rest first last l = (first, refl, l)
lived_middle (e ∷ before) rest first last l = let m = lived_middle before rest l.0 last l.2 in (m.0, (l.0, l.1, m.1), m.2)

-- one call more, at the end
pub lived_then : (list : List Event) (e : Event) (first st last : State) → Lived first list st → Happened st e last → Lived first (list ++ e ∷ []) last
lived_then [] e first st last l h = (last, rw l h, refl)
lived_then (x ∷ list) e first st last l h = (l.0, l.1, lived_then list e l.0 st last l.2 h)

-- the calls of the list
abbrev pub arrivals : List Event → List Arrival
arrivals list = map (λ e. e.arrival) list

-- every list of calls is lived through
pub lived_run : (first : State) (calls : List Arrival) → Lived first (events first calls) (run first calls)
lived_run first [] = refl
lived_run first (a ∷ calls) = (_, record { outcome_is = refl; state_is = refl; reply_is = refl }, lived_run (next first a) calls)

-- and in one way only
pub lived_is : (list : List Event) (first last : State) → Lived first list last
    → (list ≡ events first (arrivals list)) × (last ≡ run first (arrivals list))
lived_is [] first last l = (refl, sym l)
lived_is (e ∷ rest) first last l =
    let h = l.1 in
    let r = lived_is rest l.0 last l.2 in (
      ap (λ (x : Event). x ∷ rest) (event_is h) ∙ ap (λ (x : List Event). computed ∷ x) (r.0 ∙ ap (λ (st : State). events st (arrivals rest)) h.state_is),
      r.1 ∙ ap (λ (st : State). run st (arrivals rest)) h.state_is,
    )
  where
    computed : Event
    computed = record { arrival = e.arrival; outcome = outcome first e.arrival; reply = replied first e.arrival }

    event_is : Happened first e l.0 → e ≡ computed
    event_is h i = record { arrival = e.arrival; outcome = h.outcome_is i; reply = h.reply_is i }

-- ---- The theorem
module _ (first : State) (past : List Counted) (I : AccountsFor past first) (list : List Event) (last : State) (lived : Lived first list last) where
  -- the state that an event of the list met
  pub record Met (before : List Event) (e : Event) : Type 0 where
    pub st : State
    pub accounts : AccountsFor (counted past before) st
    pub outcome_is : e.outcome ≡ outcome st e.arrival

  pub met : (before : List Event) (e : Event) (after : List Event) → list ≡ before ++ e ∷ after → Met before e
  met before e after split =
      let m = lived_middle before (e ∷ after) first last (rw split at lived) in
      record { st = m.0; accounts = lived_accounts before first m.0 past m.1 I; outcome_is = m.2.1.outcome_is }

  pub demand_3_from : Demand3From first past list
  demand_3_from = record {
    apart = λ before after split st l. apart st (counted past before) (lived_accounts before first st past l I);
    goes_to = λ before e R x t c C.
        let m = met before e c.after c.split in
        rw m.outcome_is (delivery m.st (counted past before) m.accounts e.arrival R x t c.from (rw m.outcome_is at c.not_refused) C);
    to_nobody = λ before e R x t c none.
        let m = met before e c.after c.split in
        rw m.outcome_is (nobody m.st (counted past before) m.accounts e.arrival R x t c.from (rw m.outcome_is at c.not_refused) none);
  }

-- from an empty relay
pub demand_3 : (list : List Event) (last : State) → Lived empty list last → Demand3 list
demand_3 = demand_3_from empty [] accounts_empty
