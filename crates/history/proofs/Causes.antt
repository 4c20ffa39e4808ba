-- Request 3: what the cause that a peer's datagram is dropped with means, of every list of calls.
use Prim.Native.Nat.{ℕ, ◌<◌, ◌≤◌}
use mathlib.Core.Path.{◌≡◌, sym, ◌∙◌}
use mathlib.Core.Logic.{◌≢◌, ◌⊎◌, inl, inr}
use mathlib.Core.List.{List, []}
use native.Mathlib.Omega.{arith}
use Rattle.address.specs.declared.Address.TheVariants.{V4}
use Rattle.address.specs.declared.FiveTuple.{FiveTuple}
use Rattle.rules.specs.declared.answer.Outcome.TheVariants.{Refused, DroppedLapsed, DroppedNever, DroppedOther}
use Rattle.rules.specs.Change.{permission_lapsed, never_permitted, other_cause}
use Rattle.table.specs.Table.{slot_at}
use Rattle.state.specs.State.{State, empty, clock_of}
use Rattle.history.specs.Counted.{Counted}
use Rattle.history.specs.Events.{Arrival, outcome, Event, Lived}
use Rattle.history.specs.Statement.{Live, Had, HoldsPort, FromAddress}
use Rattle.history.specs.Causes.{AllEnded, Overtaken, CausesFrom}
use Rattle.history.proofs.Readings.{given_holder, given_port, holds→, holds←, had→, had←, ended←, overtaken←}
use Rattle.history.proofs.Table.{HasPermission, AccountsFor, Known, reach→}
use Rattle.history.proofs.Whole.{Verdict, reaches, shut, nobodys, reached, differ, accounts_empty}
use Rattle.history.proofs.Demand.{met}

-- ---- One datagram, in a call that is not refused
module _ (st : State) (past : List Counted) (I : AccountsFor past st) (a : Arrival) (R x t : ℕ) (from : FromAddress a R (V4 x) t)
    (nr : (number : ℕ) → outcome st a ≢ Refused number) where
  -- the live slot with the port is C's
  held_by : (C : FiveTuple) → HoldsPort past C R t → clock_of st ≤ t → (k : ℕ) → Live t (slot_at st.slots k) → (slot_at st.slots k).allocation.port ≡ R
      → Live (clock_of st) (slot_at st.slots k) × ((slot_at st.slots k).allocation.five_tuple ≡ C)
  held_by C holder le k live port =
      let l : Live (clock_of st) (slot_at st.slots k) = omega arith in
      (l, given_holder past _ C R (rw port at (I.given k l)) (holds→ past C R t holder).0)

  module _ (C : FiveTuple) (holder : HoldsPort past C R t) where
    lapsed_means : outcome st a ≡ DroppedLapsed → Had C (V4 x) holder.since × AllEnded holder.since C (V4 x) t
    lapsed_means e = go (reached st past I a R x t from nr).0 (reached st past I a R x t from nr).1
      where
        go : clock_of st ≤ t → Verdict st.slots t R (V4 x) (outcome st a) → Had C (V4 x) holder.since × AllEnded holder.since C (V4 x) t
        go le (reaches D n q r) = differ st past I a R x t from nr (permission_lapsed, e) q
        go le (shut k live port none (inl y)) =
            let h = held_by C holder le k live port in (
              (had← past C R t holder (V4 x) (λ ends. 0 < ends) (rw h.1 at (I.allowed→ k h.0 (V4 x) 0 y.1))).0,
              ended← past C R t holder (V4 x) (λ p. none (I.allowed← k h.0 (V4 x) t le (rw h.1 p))),
            )
        go le (shut k live port none (inr y)) = let q = y.0 in let z : ◌≡◌ {A = ℕ} 0 1 = cc in absurd (omega arith)
        go le (nobodys q none) = let z : ◌≡◌ {A = ℕ} 0 1 = cc in absurd (omega arith)

    never_means : outcome st a ≡ DroppedNever → (Had C (V4 x) holder.since → ⊥) ⊎ Overtaken C (V4 x) holder.since
    never_means e = go (reached st past I a R x t from nr).0 (reached st past I a R x t from nr).1
      where
        known : (k : ℕ) → Known past C (V4 x) (slot_at st.slots k).permissions → (HasPermission 0 (V4 x) (slot_at st.slots k).permissions → ⊥)
            → (Had C (V4 x) holder.since → ⊥) ⊎ Overtaken C (V4 x) holder.since
        known k (inl y) none = absurd (none y)
        known k (inr (inl y)) none = inl (λ had. y (had→ past C R t holder (V4 x) (λ ends. Unit) had tt))
        known k (inr (inr y)) none = inr (overtaken← past C R t holder (V4 x) y)

        go : clock_of st ≤ t → Verdict st.slots t R (V4 x) (outcome st a) → (Had C (V4 x) holder.since → ⊥) ⊎ Overtaken C (V4 x) holder.since
        go le (reaches D n q r) = differ st past I a R x t from nr (never_permitted, e) q
        go le (shut k live port none (inl y)) = let q = y.0 in let z : ◌≡◌ {A = ℕ} 0 1 = cc in absurd (omega arith)
        go le (shut k live port none (inr y)) = let h = held_by C holder le k live port in known k (rw h.1 at (I.known k h.0 (V4 x))) y.1
        go le (nobodys q none) = let z : ◌≡◌ {A = ℕ} 0 1 = cc in absurd (omega arith)

    -- where the port is somebody's, other is not said
    not_other : outcome st a ≡ DroppedOther → ⊥
    not_other e = go (reached st past I a R x t from nr).0 (reached st past I a R x t from nr).1
      where
        go : clock_of st ≤ t → Verdict st.slots t R (V4 x) (outcome st a) → ⊥
        go le (reaches D n q r) = differ st past I a R x t from nr (other_cause, e) q
        go le (shut k live port none (inl y)) = let q = y.0 in let z : ◌≡◌ {A = ℕ} 0 1 = cc in omega arith
        go le (shut k live port none (inr y)) = let q = y.0 in let z : ◌≡◌ {A = ℕ} 0 1 = cc in omega arith
        go le (nobodys q none) =
            let h = holds→ past C R t holder in
            let s = I.granted← C t le h.1 in
            let i : ℕ = s.0 in
            let live : t < (slot_at st.slots i).allocation.expiry = s.2 in
            let l : Live (clock_of st) (slot_at st.slots i) = omega arith in
            none i live (given_port past C _ R (rw s.1 at (I.given i l)) h.0)

  -- where it is nobody's, other is said
  is_other : ((C : FiveTuple) → HoldsPort past C R t → ⊥) → outcome st a ≡ DroppedOther
  is_other free = go (reached st past I a R x t from nr).0 (reached st past I a R x t from nr).1
    where
      go : clock_of st ≤ t → Verdict st.slots t R (V4 x) (outcome st a) → outcome st a ≡ DroppedOther
      go le (reaches C n q r) = let g = reach→ _ _ _ I C R (V4 x) t le r in absurd (free C (holds← past C R t g.0 g.1))
      go le (shut k live port none why) =
          let l : Live (clock_of st) (slot_at st.slots k) = omega arith in
          absurd (free _ (holds← past _ R t (rw port at (I.given k l)) (I.granted→ k l t le live)))
      go le (nobodys q none) = q

-- ---- The theorem
module _ (first : State) (past : List Counted) (I : AccountsFor past first) (list : List Event) (last : State) (lived : Lived first list last) where
  pub causes_from : CausesFrom past list
  causes_from = record {
    means = λ before e R x t c C holder.
        let m = met first past I list last lived before e c.after c.split in
        let nr = rw m.outcome_is at c.not_refused in
        record {
          lapsed = λ q. lapsed_means m.st _ m.accounts e.arrival R x t c.from nr C holder (sym m.outcome_is ∙ q);
          never = λ q. never_means m.st _ m.accounts e.arrival R x t c.from nr C holder (sym m.outcome_is ∙ q);
        };
    other = λ before e R x t c.
        let m = met first past I list last lived before e c.after c.split in
        let nr = rw m.outcome_is at c.not_refused in (
          λ q C holder. not_other m.st _ m.accounts e.arrival R x t c.from nr C holder (sym m.outcome_is ∙ q),
          λ free. m.outcome_is ∙ is_other m.st _ m.accounts e.arrival R x t c.from nr free,
        );
  }

-- from an empty relay
pub causes : (list : List Event) (last : State) → Lived empty list last → CausesFrom [] list
causes = causes_from empty [] accounts_empty
