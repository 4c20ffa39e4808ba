-- What the functions over the lent slots promise the relay and the listing. No public statement rests on it.
use Rattle.std.specs.Prelude.{ℕ, ◌+◌, ◌<◌, ◌≡◌, Bool, false, List, [], ◌∷◌, ◌++◌, length, get_or, Option, Some, None}
use Rattle.slot.specs.declared.Allocation.{Allocation}
use Rattle.slot.specs.declared.Slot.{Slot}
use Rattle.slot.specs.Inner.{held_in}
use Rattle.slot.specs.Search.{find, has}
use Rattle.slot.specs.Slot.{holds, holds_user, holds_port}
use Rattle.table.specs.declared.keys.Key.{Key}
use Rattle.table.specs.declared.keys.Key.TheVariants.{Client, Port}
use Rattle.table.specs.declared.keys.Wanted.{Wanted}
use Rattle.table.specs.declared.surveys.Survey.{Survey}
use Rattle.table.specs.Table.{in_slot, count, lapsed}

-- whether an allocation is live and has the key
unfoldable pub keyed : ℕ → Key → Allocation → Bool
keyed time (Client fiveTuple) allocation = holds time fiveTuple allocation
keyed time (Port port) allocation = holds_port time port allocation

-- the lowest slot with the key
abbrev pub searched : ℕ → Key → List Slot → Option ℕ
searched time key l = find (in_slot (keyed time key)) l

-- what a look over all the slots learns, for a user
pub record Surveyed (l : List Slot) (wanted : Wanted) (user : ℕ) (survey : Survey) : Type 0 where
  -- 'live allocation for the 5-tuple'
  pub own : survey.own ≡ searched wanted.time wanted.key l
  -- how many 'live allocations' the 'user holds'
  pub held : survey.held ≡ count (in_slot (holds_user wanted.time user)) l
  -- 'the lowest such slot'
  pub free : survey.free ≡ find (in_slot (lapsed wanted.time)) l
  -- of each 'port 49152 + k', whether a 'live slot holds' it
  pub ports : (k : ℕ) → k < 128 → get_or (held_in survey.ports) k false ≡ has (find (in_slot (holds_port wanted.time (49152 + k))) l)

-- and one that goes no further than the slot of the key, where no room is wanted
pub record Looked (l : List Slot) (wanted : Wanted) (survey : Survey) : Type 0 where
  pub own : survey.own ≡ searched wanted.time wanted.key l
  pub room : {user : ℕ} → wanted.room_for ≡ Some user → Surveyed l wanted user survey

-- the place that was found
abbrev pub place_of : Option ℕ → ℕ
place_of (Some k) = k
place_of None = 0

-- it lies in a table of that length
abbrev pub Within : Option ℕ → ℕ → Type 0
Within (Some k) n = k < n
Within None n = Unit

-- it is of no slots, for whomever
abbrev pub SurveyedNone : Survey → Type 0
SurveyedNone survey = (wanted : Wanted) (user : ℕ) → Surveyed [] wanted user survey

-- where `survey` is of the slots before slot i, `more` is of them and of slot i, which has the allocation
abbrev pub SurveyedWith : Survey → ℕ → Wanted → ℕ → Allocation → Survey → Type 0
SurveyedWith survey i wanted user allocation more =
    (l : List Slot) (slot : Slot) → length l ≡ i → slot.allocation ≡ allocation
    → Surveyed l wanted user survey → Surveyed (l ++ slot ∷ []) wanted user more
