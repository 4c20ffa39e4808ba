-- The laws that the proofs of the rules cite.
use Prim.Native.Nat.{ℕ, ◌≤◌}
use mathlib.Core.Path.{◌≡◌, refl, sym, ap}
use mathlib.Core.Bool.{false}
use mathlib.Core.List.{List}
use Rattle.std.specs.Prelude.{Some, None, Result, Ok, Err}
use lib.Dec.{eqb}
use lib.ListN.{take, length-take}
use lib.Seq.{take_at}
use native.Mathlib.Omega.{arith}
use borrow.Author.Tests.{ne_eqb}
use Rattle.address.specs.declared.FiveTuple.{FiveTuple}
use Rattle.stun.specs.declared.kinds.Method.{Method}
use Rattle.stun.specs.declared.message.UnknownTypes.{UnknownTypes}
use Rattle.stun.specs.Message.{unknown_types}
use Rattle.stun.specs.Inner.{unknowns}
use Rattle.messages.specs.Inner.{Sent}
use Rattle.slot.specs.declared.Slot.{Slot}
use Rattle.rules.specs.declared.answer.Answer.{Answer}
use Rattle.rules.specs.declared.answer.Outcome.{Outcome}
use Rattle.rules.specs.declared.answer.Outcome.TheVariants.{ToClient}
use Rattle.rules.specs.Change.{Out, Change, to_client, keep, write, error_message, respond}
use Rattle.rules.specs.Codes.{number, code_of}
use Rattle.rules.specs.declared.codes.ErrorCode.{ErrorCode}
use Rattle.rules.specs.declared.codes.ErrorCode.TheVariants.{BadRequest, Unauthorized, Forbidden, UnknownAttribute, AllocationMismatch, AddressFamilyNotSupported, WrongCredentials, UnsupportedTransportProtocol, PeerAddressFamilyMismatch, AllocationQuotaReached, InsufficientCapacity}
use Rattle.rules.specs.Inner.{Gives, Answers}

-- ---- What a function that decides says

-- a message was written
pub gives_message : {fiveTuple : FiveTuple} {message before after : List ℕ} {n : ℕ} → Sent message before after n
    → Gives (to_client fiveTuple message) before after (ToClient fiveTuple n)
gives_message {fiveTuple} w = record { outcome_is = ap (ToClient fiveTuple) w.size; reply_is = w.wrote.is }

-- something is given out, and the slot kept
pub gives_kept : {out : Out} {outcome : Outcome} {before after : List ℕ} → Gives out before after outcome
    → Answers (keep out) before after (record { outcome = outcome; written = None })
gives_kept g = record { gives = g; written = refl }

-- .. or written
pub gives_written : {out : Out} {outcome : Outcome} {before after : List ℕ} {made slot : Slot} → made ≡ slot → Gives out before after outcome
    → Answers (write slot out) before after (record { outcome = outcome; written = Some made })
gives_written e g = record { gives = g; written = ap Some e }

-- a message, and the slot kept or written
pub kept_with : {fiveTuple : FiveTuple} {message before after : List ℕ} {n : ℕ} → Sent message before after n
    → Answers (keep (to_client fiveTuple message)) before after (record { outcome = ToClient fiveTuple n; written = None })
kept_with w = gives_kept (gives_message w)

pub written_with : {fiveTuple : FiveTuple} {message before after : List ℕ} {n : ℕ} {made slot : Slot} → made ≡ slot → Sent message before after n
    → Answers (write slot (to_client fiveTuple message)) before after (record { outcome = ToClient fiveTuple n; written = Some made })
written_with e w = gives_written e (gives_message w)

-- what is kept is not written
pub kept_not_written : {A : Type 0} {kept out : Out} {slot : Slot} → keep kept ≡ write slot out → A
kept_not_written e = let z : ◌≡◌ {A = ℕ} 0 1 = cc in let y : ⊥ = omega arith in absurd y

-- ---- The unknown types in their array
module _ (s : List ℕ) {u : UnknownTypes} (e : u ≡ unknowns s) where
  pub types_few : u.count ≤ 16
  unfolding unknowns unknown_types
  types_few = rw (e, length-take) (omega arith)

  pub types_listed : take u.count u.types ≡ unknown_types s
  unfolding unknowns
  types_listed = rw e (take_at (unknown_types s) _ _ refl)

-- ---- The codes
pub number_small : (code : ErrorCode) → (1 ≤ number code) × (number code ≤ 699)
number_small BadRequest = (omega arith, omega arith)
number_small Unauthorized = (omega arith, omega arith)
number_small Forbidden = (omega arith, omega arith)
number_small UnknownAttribute = (omega arith, omega arith)
number_small AllocationMismatch = (omega arith, omega arith)
number_small AddressFamilyNotSupported = (omega arith, omega arith)
number_small WrongCredentials = (omega arith, omega arith)
number_small UnsupportedTransportProtocol = (omega arith, omega arith)
number_small PeerAddressFamilyMismatch = (omega arith, omega arith)
number_small AllocationQuotaReached = (omega arith, omega arith)
number_small InsufficientCapacity = (omega arith, omega arith)

-- 420 is the number of one code
pub unknown_number : {code : ErrorCode} → code ≡ UnknownAttribute → number code ≡ 420
unknown_number e = rw e

pub other_number : (code : ErrorCode) → (code ≡ UnknownAttribute → ⊥) → eqb (number code) 420 ≡ false
other_number BadRequest n = refl
other_number Unauthorized n = refl
other_number Forbidden n = refl
other_number UnknownAttribute n = absurd (n refl)
other_number AllocationMismatch n = refl
other_number AddressFamilyNotSupported n = refl
other_number WrongCredentials n = refl
other_number UnsupportedTransportProtocol n = refl
other_number PeerAddressFamilyMismatch n = refl
other_number AllocationQuotaReached n = refl
other_number InsufficientCapacity n = refl

-- ---- The answer to a request, by what its checks gave
module _ (fiveTuple : FiveTuple) (method : Method) (s : List ℕ) (accepted : Change) {n : ℕ} {before after : List ℕ} {answer : Answer} {A : Type 0} {checked : Result A ErrorCode}
    (q : code_of checked ≡ n) where
  pub answers_error : {code : ErrorCode} → checked ≡ Err code → Answers (keep (to_client fiveTuple (error_message method s (number code)))) before after answer
      → Answers (respond fiveTuple method s n accepted) before after answer
  unfolding respond
  answers_error {code} e w =
      let some : eqb (number code) 0 ≡ false = ne_eqb (number code) 0 (λ z. let h = (number_small code).0 in omega arith) in
      rw (sym q, e, some) w

  pub answers_accepted : {passed : A} → checked ≡ Ok passed → Answers accepted before after answer → Answers (respond fiveTuple method s n accepted) before after answer
  unfolding respond
  answers_accepted e w = rw (sym q, e) w
