-- The laws of searches and surveys: what one more slot at the end changes, and what a loop over the slots keeps.
use Prim.Native.Nat.{ℕ, suc, ◌+◌, ◌≤◌, ◌<◌, ◌^◌}
use mathlib.Core.Path.{◌≡◌, refl, sym, ◌∙◌, ap, subst}
use mathlib.Core.Bool.{Bool, true, false, false≢true}
use mathlib.Core.List.{List, [], ◌∷◌, ◌++◌}
use Rattle.std.specs.Prelude.{Option, Some, None}
use native.Mathlib.Numerals.{add-one}
use native.Mathlib.Omega.{arith}
use borrow.Author.Tests.{eqb-true, eqb-false, eq-eqb, ne_eqb}
use lib.Dec.{eqb}
use lib.ListN.{length, get_or, set, take, length-take}
use lib.Seq.{take-suc, take_all, length-take-le, get_or-set_same, get_or-set_other}
use Rattle.choice.specs.Choice.{pick, both}
use Rattle.slot.specs.declared.Allocation.{Allocation}
use Rattle.slot.specs.declared.Slot.{Slot}
use Rattle.slot.specs.Inner.{held_in}
use Rattle.slot.specs.Search.{further, find, has, or_else}
use Rattle.slot.specs.Slot.{live_allocation, holds, holds_user, holds_port}
use Rattle.table.specs.declared.surveys.Survey.{Survey}
use Rattle.table.specs.declared.keys.Key.{Key}
use Rattle.table.specs.declared.keys.Key.TheVariants.{Client, Port}
use Rattle.table.specs.declared.keys.Wanted.{Wanted}
use Rattle.table.specs.Table.{in_slot, count, lapsed}
use Rattle.table.specs.Inner.{keyed, searched, Surveyed, Looked, place_of, Within, SurveyedWith}

-- ---- one more entry at the end of a list
further_else : (found : Option ℕ) (passes : Bool) (i : ℕ) → further (or_else found (pick passes (Some i) None)) ≡ or_else (further found) (pick passes (Some (suc i)) None)
further_else (Some j) passes i = refl
further_else None true i = refl
further_else None false i = refl

has_else : (found : Option ℕ) (passes : Bool) (i : ℕ) → has (or_else found (pick passes (Some i) None)) ≡ pick (has found) true passes
has_else (Some j) passes i = refl
has_else None true i = refl
has_else None false i = refl

module _ {A : Type 0} (p : A → Bool) where
  find_more : (l : List A) (x : A) → find p (l ++ x ∷ []) ≡ or_else (find p l) (pick (p x) (Some (length l)) None)
  unfolding find
  find_more [] x = refl
  find_more (y ∷ l) x = rw (find_more l x) (here (p y))
    where
      here : (b : Bool) → pick b (Some 0) (further (or_else (find p l) (pick (p x) (Some (length l)) None))) ≡ or_else (pick b (Some 0) (further (find p l))) (pick (p x) (Some (suc (length l))) None)
      here true = refl
      here false = further_else (find p l) (p x) (length l)

  -- what is found is one of the list's
  pub find_within : (l : List A) {i : ℕ} → find p l ≡ Some i → i < length l
  unfolding find
  find_within [] e = let z : ◌≡◌ {A = ℕ} 0 1 = cc in omega arith
  find_within (y ∷ l) {i} e = here (p y) (find p l) (λ j. find_within l) e
    where
      here : (b : Bool) (found : Option ℕ) → ((j : ℕ) → found ≡ Some j → j < length l) → pick b (Some 0) (further found) ≡ Some i → i < suc (length l)
      here true found within e' = let z : ◌≡◌ {A = ℕ} 0 i = cc in omega arith
      here false (Some j) within e' = let z : suc j ≡ i = cc in omega (arith, within j refl)
      here false None within e' = let z : ◌≡◌ {A = ℕ} 0 1 = cc in omega arith

  pub found_within : (l : List A) (found : Option ℕ) → found ≡ find p l → Within found (length l)
  found_within l (Some i) e = find_within l (sym e)
  found_within l None e = tt

  has_more : (l : List A) (x : A) → has (find p (l ++ x ∷ [])) ≡ pick (has (find p l)) true (p x)
  has_more l x = ap has (find_more l x) ∙ has_else (find p l) (p x) (length l)

  count_more : (l : List A) (x : A) → count p (l ++ x ∷ []) ≡ pick (p x) (count p l + 1) (count p l)
  unfolding count
  count_more [] x = refl
  count_more (y ∷ l) x = rw (count_more l x) (here (p y) (p x))
    where
      here : (b b' : Bool) → pick b (suc (pick b' (count p l + 1) (count p l))) (pick b' (count p l + 1) (count p l)) ≡ pick b' (pick b (suc (count p l)) (count p l) + 1) (pick b (suc (count p l)) (count p l))
      here true true = omega arith
      here true false = refl
      here false true = refl
      here false false = refl

  count_most : (l : List A) → count p l ≤ length l
  unfolding count
  count_most [] = omega arith
  count_most (y ∷ l) = here (p y) (count_most l)
    where
      here : (b : Bool) → count p l ≤ length l → pick b (suc (count p l)) (count p l) ≤ suc (length l)
      here true most = omega arith
      here false most = omega arith

-- ---- one more port: p
pub unmarked : (x : Bool) {b : Bool} → b ≡ false → x ≡ pick x true b
unmarked true none = refl
unmarked false none = sym none

module _ (ports : List Bool) {marked : List Bool} {p k : ℕ} where
  pub mark_at : marked ≡ set ports k true → p ≡ 49152 + k → k < length ports → (j : ℕ) → get_or marked j false ≡ pick (get_or ports j false) true (eqb p (49152 + j))
  mark_at e at within j = rw e (by_case (eqb j k) refl)
    where
      held : (x : Bool) → true ≡ pick x true true
      held true = refl
      held false = refl

      by_case : (b : Bool) → eqb j k ≡ b → get_or (set ports k true) j false ≡ pick (get_or ports j false) true (eqb p (49152 + j))
      by_case true t = rw (eqb-true j k t, get_or-set_same, eq-eqb p (49152 + k) at) (held (get_or ports k false))
      by_case false f =
          rw (get_or-set_other ports k j true false (eqb-false j k f))
          (unmarked (get_or ports j false) (ne_eqb p (49152 + j) (λ same. eqb-false j k f (omega arith))))

-- ---- one more slot
pub surveyed_with : {survey more : Survey} {i : ℕ} {wanted : Wanted} {user : ℕ} {allocation : Allocation}
    → more.own ≡ or_else survey.own (pick (keyed wanted.time wanted.key allocation) (Some i) None)
    → more.held ≡ pick (holds_user wanted.time user allocation) (survey.held + 1) survey.held
    → more.free ≡ or_else survey.free (pick (lapsed wanted.time allocation) (Some i) None)
    → ((k : ℕ) → k < 128 → get_or (held_in more.ports) k false ≡ pick (get_or (held_in survey.ports) k false) true (holds_port wanted.time (49152 + k) allocation))
    → SurveyedWith survey i wanted user allocation more
surveyed_with {survey} {more} {i} {wanted} {user} {allocation} own held free ports l slot here same before = record {
  own = rw (find_more (in_slot (keyed wanted.time wanted.key)) l slot, ← before.own, same, here) own;
  held = rw (count_more (in_slot (holds_user wanted.time user)) l slot, ← before.held, same) held;
  free = rw (find_more (in_slot (lapsed wanted.time)) l slot, ← before.free, same, here) free;
  ports = λ k h. rw (has_more (in_slot (holds_port wanted.time (49152 + k))) l slot, ← before.ports k h, same) (ports k h);
}

-- ---- one more slot, by the tests that are made: it isn't live; or it is, and then it has the key or has not
pub else_none : (found : Option ℕ) → found ≡ or_else found None
else_none (Some i) = refl
else_none None = refl

module _ (time : ℕ) (allocation : Allocation) where
  lapsed_key : live_allocation time allocation ≡ false → (key : Key) → keyed time key allocation ≡ false
  unfolding keyed holds holds_port both
  lapsed_key dead (Client fiveTuple) = rw dead
  lapsed_key dead (Port port) = rw dead

  lapsed_user : live_allocation time allocation ≡ false → (user : ℕ) → holds_user time user allocation ≡ false
  unfolding holds_user both
  lapsed_user dead user = rw dead

  live_port : {b : Bool} → live_allocation time allocation ≡ b → (port : ℕ) → holds_port time port allocation ≡ both b (eqb allocation.port port)
  unfolding holds_port
  live_port e port = rw e

module _ {survey more : Survey} {i : ℕ} {wanted : Wanted} {user : ℕ} {allocation : Allocation} where
  pub surveyed_lapsed : live_allocation wanted.time allocation ≡ false → more.own ≡ survey.own → more.held ≡ survey.held
      → more.free ≡ or_else survey.free (Some i) → more.ports ≡ survey.ports → SurveyedWith survey i wanted user allocation more
  unfolding both
  surveyed_lapsed dead own held free ports =
      surveyed_with
      (rw (lapsed_key wanted.time allocation dead wanted.key) (own ∙ else_none survey.own))
      (rw (lapsed_user wanted.time allocation dead user) held)
      (rw dead free)
      (λ k h. rw (live_port wanted.time allocation dead (49152 + k), ports) (unmarked _ refl))

  pub surveyed_live : live_allocation wanted.time allocation ≡ true
      → more.own ≡ or_else survey.own (pick (keyed wanted.time wanted.key allocation) (Some i) None)
      → more.held ≡ pick (holds_user wanted.time user allocation) (survey.held + 1) survey.held → more.free ≡ survey.free
      → ((k : ℕ) → k < 128 → get_or (held_in more.ports) k false ≡ pick (get_or (held_in survey.ports) k false) true (eqb allocation.port (49152 + k)))
      → SurveyedWith survey i wanted user allocation more
  unfolding both
  surveyed_live lives own held free ports =
      surveyed_with own held (rw lives (free ∙ else_none survey.free)) (λ k h. rw (live_port wanted.time allocation lives (49152 + k)) (ports k h))

-- ---- a loop over the slots: it has surveyed the first i
module _ (l : List Slot) (i : ℕ) {wanted : Wanted} {user : ℕ} {survey : Survey} where
  pub held_fits : length l < 2 ^ 63 → Surveyed (take i l) wanted user survey → survey.held < 2 ^ 63
  held_fits short before = omega (arith, before.held, count_most (in_slot (holds_user wanted.time user)) (take i l), length-take i l)

  pub survey_next : {more : Survey} (d : Slot) → i < length l → Surveyed (take i l) wanted user survey
      → SurveyedWith survey i wanted user (get_or l i d).allocation more → Surveyed (take (i + 1) l) wanted user more
  survey_next d within before next = rw (add-one, take-suc l i d) (next (take i l) (get_or l i d) (length-take-le i l (omega arith)) refl before)

  pub survey_all : length l ≤ i → Surveyed (take i l) wanted user survey → Surveyed l wanted user survey
  survey_all past before = rw (take_all i l past) at before

-- ---- a look over the slots
pub some_same : {a b : ℕ} → ◌≡◌ {A = Option ℕ} (Some a) (Some b) → a ≡ b
some_same e = cc

none_some : {a : ℕ} → ◌≡◌ {A = Option ℕ} None (Some a) → ⊥
none_some e = let z : ◌≡◌ {A = ℕ} 0 1 = cc in omega arith

-- of the user whom room is wanted for, or, where none is wanted, of any
pub look_over : {l : List Slot} {wanted : Wanted} {user : ℕ} {survey : Survey} → ((told : ℕ) → wanted.room_for ≡ Some told → told ≡ user) → Surveyed l wanted user survey
    → Looked l wanted survey
look_over {l} {wanted} {user} {survey} asked w =
    record { own = w.own; room = λ {user = told} e. subst (λ (u : ℕ). Surveyed l wanted u survey) (sym (asked told e)) w }

pub look_found : {l : List Slot} {wanted : Wanted} {survey : Survey} {found : Option ℕ} → wanted.room_for ≡ None
    → found ≡ searched wanted.time wanted.key l → survey.own ≡ found → Looked l wanted survey
look_found n f o = record { own = o ∙ f; room = λ told. absurd (none_some (sym n ∙ told)) }

-- what was found lies in the table
pub own_within : (l : List Slot) {wanted : Wanted} {survey : Survey} → Looked l wanted survey → Within survey.own (length l)
own_within l {wanted} {survey} w = found_within (in_slot (keyed wanted.time wanted.key)) l survey.own w.own

-- the place found
module _ (l : List Slot) {there : Bool} (found : Option ℕ) (h : there ≡ has found) where
  pub place_there : {k : ℕ} → there ≡ true → k ≡ place_of found → Within found (length l) → k < length l
  place_there {k} y p w = go found (sym h ∙ y) p w
    where
      go : (f : Option ℕ) → has f ≡ true → k ≡ place_of f → Within f (length l) → k < length l
      go (Some i) t q v = rw q v
      go None t q v = absurd (false≢true t)
