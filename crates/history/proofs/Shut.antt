-- Where a peer's datagram did not reach a client, no later one does, until a request of that client for the peer's address is accepted.
use Prim.Native.Nat.{ℕ, ◌<◌, ◌≤◌}
use mathlib.Core.Path.{◌≡◌, sym, ◌∙◌, ap}
use mathlib.Core.Logic.{◌≢◌, ◌⊎◌, inl, inr}
use mathlib.Core.List.{List, [], ◌∷◌, ◌++◌, Memᴰ}
use native.Mathlib.Omega.{arith}
use native.Mathlib.Nat.{le_refl, le_trans}
use Rattle.address.specs.declared.Address.{Address}
use Rattle.address.specs.declared.Address.TheVariants.{V4}
use Rattle.address.specs.declared.FiveTuple.{FiveTuple}
use Rattle.refusal.specs.Refusal.{number}
use Rattle.rules.specs.declared.answer.Outcome.TheVariants.{Refused}
use Rattle.state.specs.State.{State, clock_of}
use Rattle.interface.specs.Refusals.{time_of}
use Rattle.state.specs.Outcomes.{Act, outcome_of, reply_after, state_after}
use Rattle.table.specs.Table.{slot_at}
use Rattle.history.specs.Counted.{Counted, gave, kept, allowed, nothing, without_repeats}
use Rattle.history.specs.Events.{Arrival, met, acts, Event, Happened, Lived, counts_by, counts, counted}
use Rattle.history.specs.Statement.{Live, Lasts, FromAddress, Comes, To}
use Rattle.history.proofs.Readings.{Given, Granted, Allowed, goes→, goes←}
use Rattle.history.proofs.Table as table
use Rattle.history.proofs.Table.{AccountsFor, accounts_later}
use Rattle.history.proofs.Whole.{Moved, refused, changed, moves, refused_counts, happened_accounts, lived_accounts}
use Rattle.history.proofs.Demand.{lived_middle, demand_3_from}
use Rattle.history.proofs.Corollaries.{NoneFor, counted-append}

-- ---- What holds at a time held before it
granted_before : (h : List Counted) (C : FiveTuple) (u t : ℕ) → u ≤ t → Granted h C t → Granted h C u
granted_before [] C u t le x = elim x [ ]
granted_before (gave D P s n ∷ h) C u t le (inl x) = inl (x.0, record { not_zero = x.1.not_zero; not_over = omega (arith, x.1.not_over) })
granted_before (gave D P s n ∷ h) C u t le (inr x) = inr (x.0, granted_before h C u t le x.1)
granted_before (kept D s n ∷ h) C u t le (inl x) = inl (x.0, record { not_zero = x.1.not_zero; not_over = omega (arith, x.1.not_over) })
granted_before (kept D s n ∷ h) C u t le (inr x) = inr (x.0, granted_before h C u t le x.1)
granted_before (allowed D xs ends ∷ h) C u t le x = granted_before h C u t le x
granted_before (nothing ∷ h) C u t le x = granted_before h C u t le x

allowed_before : (h : List Counted) (C : FiveTuple) (a : Address) (u t : ℕ) → u ≤ t → Allowed h C a t → Allowed h C a u
allowed_before [] C a u t le x = elim x [ ]
allowed_before (gave D P s n ∷ h) C a u t le x = (x.0, allowed_before h C a u t le x.1)
allowed_before (kept D s n ∷ h) C a u t le x = allowed_before h C a u t le x
allowed_before (allowed D xs ends ∷ h) C a u t le (inl x) = inl (x.0, x.1, omega (arith, x.2))
allowed_before (allowed D xs ends ∷ h) C a u t le (inr x) = inr (allowed_before h C a u t le x)
allowed_before (nothing ∷ h) C a u t le x = allowed_before h C a u t le x

-- ---- One call

-- a Refresh is accepted only while the last lifetime lasts
refresh_lasted : (st : State) (a : Arrival) (past : List Counted) → AccountsFor past st → (x : Act) → Moved st a x → (C : FiveTuple) (s n : ℕ)
    → without_repeats past (counts_by a.call a.datagram (outcome_of x) (reply_after a.reply x)) ≡ kept C s n → (clock_of st ≤ s) × Granted past C s
refresh_lasted st a past I x (refused told e) C s n q =
    let r = refused_counts a.call a.datagram (number told) a.reply in
    let k : nothing ≡ kept C s n = sym (ap (without_repeats past) r) ∙ rw e at q in
    let z : ◌≡◌ {A = ℕ} 0 1 = cc in
    let y : ⊥ = omega arith in
    absurd y
refresh_lasted st a past I x (changed le clock c) C s n q = go (rw q at (c past (accounts_later _ _ _ past le I)))
  where
    now : ℕ
    now = time_of a.call

    own : s ≡ now → (k : ℕ) → Live now (slot_at st.slots k) → (slot_at st.slots k).allocation.five_tuple ≡ C → (clock_of st ≤ s) × Granted past C s
    own e k live mine =
        let was : Live (clock_of st) (slot_at st.slots k) = omega arith in
        rw (e, ← mine) (le, I.granted→ k was now le live)

    go : table.Change now (slot_at st.slots) (slot_at (state_after st x).slots) (kept C s n) → (clock_of st ≤ s) × Granted past C s
    go (e, inl c) = own e c.k c.live c.mine
    go (e, inr c) = own e c.k c.live c.mine

clock_rises : (st : State) (a : Arrival) (x : Act) → Moved st a x → clock_of st ≤ clock_of (state_after st x)
clock_rises st a x (refused told e) = rw e (le_refl _)
clock_rises st a x (changed le clock c) = rw clock le

-- ---- The calls since then
module _ (C : FiveTuple) (R : ℕ) (a : Address) where
  -- what was counted lets a datagram through to C
  abbrev Open : List Counted → ℕ → Type 0
  Open past t = Given past C R × Granted past C t × Allowed past C a t

  -- so it did before the last that was counted, unless that allowed it
  open_before : (past : List Counted) (t : ℕ) (d : Counted) → ((xs : List Address) (ends : ℕ) → d ≡ allowed C xs ends → Memᴰ a xs → ⊥)
      → ((s n : ℕ) → d ≡ kept C s n → Granted past C t) → Open (d ∷ past) t → Open past t
  open_before past t (gave D P s n) none again o = given o.0 o.1
    where
      not_own : C ≢ D
      not_own = o.2.0

      lasts : ((C ≡ D) × Lasts t s n) ⊎ ((C ≢ D) × Granted past C t) → Granted past C t
      lasts (inl x) = absurd (not_own x.0)
      lasts (inr x) = x.1

      given : ((C ≡ D) × (R ≡ P)) ⊎ ((C ≢ D) × (R ≢ P) × Given past C R) → ((C ≡ D) × Lasts t s n) ⊎ ((C ≢ D) × Granted past C t) → Open past t
      given (inl x) l = absurd (not_own x.0)
      given (inr x) l = (x.2, lasts l, o.2.1)
  open_before past t (kept D s n) none again o = (o.0, lasts o.1, o.2)
    where
      lasts : ((C ≡ D) × Lasts t s n) ⊎ ((C ≢ D) × Granted past C t) → Granted past C t
      lasts (inl x) = again s n (ap (λ (E : FiveTuple). kept E s n) (sym x.0))
      lasts (inr x) = x.1
  open_before past t (allowed D xs ends) none again o = (o.0, o.1, permitted o.2)
    where
      permitted : ((C ≡ D) × Memᴰ a xs × (t < ends)) ⊎ Allowed past C a t → Allowed past C a t
      permitted (inl x) = absurd (none xs ends (ap (λ (E : FiveTuple). allowed E xs ends) (sym x.0)) x.1)
      permitted (inr x) = x
  open_before past t nothing none again o = o

  -- and so it did before all of them
  open_since : (more : List Event) (st last : State) (past : List Counted) (t u : ℕ) → Lived st more last → AccountsFor past st → NoneFor C a past more
      → t ≤ clock_of st → t ≤ u → Open (counted past more) u → Open past t
  open_since [] st last past t u l I none le later o = (o.0, granted_before past C t u later o.1, allowed_before past C a t u later o.2)
  open_since (e ∷ more) st last past t u l I none le later o =
      let m = moves st e.arrival in
      let h = l.1 in
      let rises = clock_rises (met st e.arrival) e.arrival (acts st e.arrival) m in
      let on : t ≤ clock_of l.0 = rw h.state_is (omega arith) in
      let next = open_since more l.0 last (counts past e ∷ past) t u l.2 (happened_accounts st e l.0 past h I) none.1 on later o in
      open_before past t (counts past e) none.0
      (λ s n q. let r = refresh_lasted (met st e.arrival) e.arrival past I (acts st e.arrival) m C s n (rw (h.outcome_is, h.reply_is) at q) in granted_before past C t s (omega (arith, r.0)) r.1)
      next

-- ---- The theorem

-- the clock before and after a peer's datagram that is not refused
peer_clock : (st after : State) (e : Event) (R : ℕ) (a : Address) (t : ℕ) → Happened st e after → FromAddress e.arrival R a t
    → ((number : ℕ) → e.outcome ≢ Refused number) → (clock_of st ≤ t) × (t ≤ clock_of after)
peer_clock st after e R a t h from nr = go (acts st e.arrival) (moves st e.arrival) h.outcome_is h.state_is
  where
    go : (x : Act) → Moved (met st e.arrival) e.arrival x → e.outcome ≡ outcome_of x → after ≡ state_after (met st e.arrival) x → (clock_of st ≤ t) × (t ≤ clock_of after)
    go x (refused told q) o s = absurd (nr (number told) (o ∙ ap outcome_of q))
    go x (changed le clock c) o s =
        let time : time_of e.arrival.call ≡ t = rw from.2 in
        let stays : clock_of after ≡ t = rw s (clock ∙ time) in
        (omega (arith, le, time), omega (arith, stays))

clock_rises_on : (more : List Event) (st last : State) → Lived st more last → clock_of st ≤ clock_of last
clock_rises_on [] st last l = rw l (le_refl _)
clock_rises_on (e ∷ more) st last l =
    let one : clock_of st ≤ clock_of l.0 = rw l.1.state_is (clock_rises (met st e.arrival) e.arrival (acts st e.arrival) (moves st e.arrival)) in
    le_trans one (clock_rises_on more l.0 last l.2)

peer_counts : (past : List Counted) (e : Event) (R : ℕ) (a : Address) (t : ℕ) → FromAddress e.arrival R a t → counts past e ≡ nothing
peer_counts past e R a t from = rw from.2

-- where a later datagram from that address to that port goes to C, so did an earlier one, unless a request of C for the address was accepted in
-- between: what was shut stays shut
pub never_reopens : (first last : State) (past : List Counted) (list : List Event) → AccountsFor past first → Lived first list last
    → (before more : List Event) (e later : Event) (R x t u : ℕ) → Comes list before e R (V4 x) t → Comes list (before ++ e ∷ more) later R (V4 x) u
    → (C : FiveTuple) → NoneFor C (V4 x) (counted past (before ++ e ∷ [])) more → To C later → To C e
never_reopens first last past list I lived before more e later R x t u c d C none sent =
    let demand = demand_3_from first past I list last lived in
    let end = lived_middle (before ++ e ∷ more) (later ∷ d.after) first last (rw d.split at lived) in
    let start = lived_middle before (e ∷ more) first end.0 end.1 in
    let happened = start.2.1 in
    let was = counted past before in
    let accounts = lived_accounts before first start.0 past start.1 I in
    let now = peer_clock start.0 start.2.0 e R (V4 x) t happened c.from c.not_refused in
    let then = peer_clock end.0 end.2.0 later R (V4 x) u end.2.1 d.from d.not_refused in
    let on = clock_rises_on more start.2.0 end.0 start.2.2 in
    let g = goes→ _ C R (V4 x) u ((demand.goes_to (before ++ e ∷ more) later R x u d C).0 sent) in
    let o : Open C R (V4 x) (counts was e ∷ was) t = open_since C R (V4 x) more start.2.0 end.0 (counts was e ∷ was) t u start.2.2
    (happened_accounts start.0 e start.2.0 was happened accounts)
    (rw (counted-append past before (e ∷ [])) at none)
    now.1
    (omega (arith, now.1, then.0, on))
    (rw (counted-append past before (e ∷ more)) at g) in
    let p : Open C R (V4 x) was t = rw (peer_counts was e R (V4 x) t c.from) at o in
    (demand.goes_to before e R x t c C).1 (goes← was C R (V4 x) t p.0 p.1 p.2)
