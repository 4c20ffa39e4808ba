-- What demand 3 says in particular.
use Prim.Native.Nat.{ℕ, ◌≤◌}
use mathlib.Core.Path.{◌≡◌, refl, sym, ◌∙◌}
use mathlib.Core.Logic.{◌↔◌}
use mathlib.Core.List.{List, [], ◌∷◌, ◌++◌, Memᴰ}
use native.Mathlib.Omega.{arith}
use Rattle.address.specs.declared.Address.{Address}
use Rattle.address.specs.declared.Address.TheVariants.{V4, V6}
use Rattle.address.specs.declared.FiveTuple.{FiveTuple}
use Rattle.rules.specs.declared.answer.Outcome.TheVariants.{DroppedOther}
use Rattle.state.specs.State.{State}
use Rattle.history.specs.Counted.{Counted, allowed}
use Rattle.history.specs.Events.{Event, Lived, counts, counted}
use Rattle.history.specs.Statement.{GoesTo, Comes, To, IsDropped, Demand3From}
use Rattle.history.specs.Causes.{AllEnded}
use Rattle.history.proofs.Whole.{ipv6_dropped}
use Rattle.history.proofs.Demand.{lived_middle}
use Rattle.history.proofs.Own.{about, goes_alike}

-- none of these events, after what was counted before them, is an accepted request of C for address a
abbrev pub NoneFor : FiveTuple → Address → List Counted → List Event → Type 0
NoneFor C a past [] = Unit
NoneFor C a past (e ∷ rest) = ((xs : List Address) (ends : ℕ) → counts past e ≡ allowed C xs ends → Memᴰ a xs → ⊥) × NoneFor C a (counts past e ∷ past) rest

lapsed_not : (past : List Counted) (C : FiveTuple) (R : ℕ) (a : Address) (t : ℕ) → AllEnded past C a t → GoesTo past C R a t → ⊥
lapsed_not past C R a t none g =
    let p = g.permission.request in
    let m : Memᴰ (allowed C p.addresses p.ends) past = rw g.holder.allocate (mathlib.Core.List.Memᴰ.append_left _ p.accepted) in
    let late = none p.addresses p.ends m p.named in
    omega (arith, g.permission.recent)

still_lapsed : (C : FiveTuple) (a : Address) (t : ℕ) (past : List Counted) (more : List Event) → NoneFor C a past more → AllEnded past C a t → AllEnded (counted past more) C a t
still_lapsed C a t past [] none l = l
still_lapsed C a t past (e ∷ more) none l = still_lapsed C a t (counts past e ∷ past) more none.1 one
  where
    one : AllEnded (counts past e ∷ past) C a t
    one xs ends (mathlib.Core.List.Memᴰ.head q) m = absurd (none.0 xs ends (sym q) m)
    one xs ends (mathlib.Core.List.Memᴰ.tail k) m = l xs ends k m

pub counted-append : (past : List Counted) (list more : List Event) → counted past (list ++ more) ≡ counted (counted past list) more
counted-append past [] more = refl
counted-append past (e ∷ list) more = counted-append (counts past e ∷ past) list more

module _ {first : State} {past : List Counted} {list : List Event} (demand : Demand3From first past list) where
  -- a peer for whose address nobody's request is still good reaches nobody
  pub no_permission : (before : List Event) (e : Event) (R x t : ℕ) → Comes list before e R (V4 x) t
      → ((C : FiveTuple) → AllEnded (counted past before) C (V4 x) t) → IsDropped e
  no_permission before e R x t c none = demand.to_nobody before e R x t c (λ C. lapsed_not _ C R (V4 x) t (none C))

  -- where all of C's requests for the address had ended at u, and none was accepted in the events since then, it stays shut
  pub stays_shut : (before more : List Event) (e : Event) (R x u t : ℕ) → Comes list (before ++ more) e R (V4 x) t → u ≤ t → (C : FiveTuple)
      → AllEnded (counted past before) C (V4 x) u → NoneFor C (V4 x) (counted past before) more → To C e → ⊥
  stays_shut before more e R x u t c le C shut none sent =
      let g = (demand.goes_to (before ++ more) e R x t c C).0 sent in
      lapsed_not (counted (counted past before) more) C R (V4 x) t
      (still_lapsed C (V4 x) t (counted past before) more none (λ xs ends m n. omega (arith, shut xs ends m n)))
      (rw counted-append at g)

-- what C receives depends only on its own accepted requests and on who was given its port: two lists of calls alike in these reach C alike
pub own_history : {first first' : State} {past past' : List Counted} {list list' : List Event}
    → Demand3From first past list → Demand3From first' past' list'
    → (before before' : List Event) (e e' : Event) (R x t : ℕ) → Comes list before e R (V4 x) t → Comes list' before' e' R (V4 x) t → (C : FiveTuple)
    → about C R (counted past before) ≡ about C R (counted past' before') → To C e ↔ To C e'
own_history demand demand' before before' e e' R x t c c' C same =
    let there = demand.goes_to before e R x t c C in
    let here = demand'.goes_to before' e' R x t c' C in
    (λ sent. here.1 (goes_alike C R _ _ same (there.0 sent)), λ sent. there.1 (goes_alike C R _ _ (sym same) (here.0 sent)))

-- an IPv6 peer's datagram goes to nobody
pub ipv6_to_nobody : (first last : State) (list before : List Event) (e : Event) (R p q r w t : ℕ) → Lived first list last
    → Comes list before e R (V6 p q r w) t → e.outcome ≡ DroppedOther
ipv6_to_nobody first last list before e R p q r w t lived c =
    let m = lived_middle before (e ∷ c.after) first last (rw c.split at lived) in
    let same = m.2.1.outcome_is in
    same ∙ ipv6_dropped m.0 e.arrival R p q r w t c.from (rw same at c.not_refused)
