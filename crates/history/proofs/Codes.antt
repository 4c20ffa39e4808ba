-- The codes that a request is answered with, and the types that a 420 lists: both in the ranges of the clients' reader.
use Prim.Native.Nat.{ℕ, zero, suc, ◌-◌, ◌≤◌, ◌<◌}
use mathlib.Core.Path.{◌≡◌, refl}
use mathlib.Core.Logic.{◌⊎◌, inl, inr}
use mathlib.Core.Bool.{Bool, true, false, not, false≢true}
use mathlib.Core.List.{List, [], ◌∷◌, ◌++◌}
use native.Mathlib.Omega.{arith}
use lib.Dec.{eqb, leb, lit<}
use lib.ListN.{length, get_or, take, replicate, length-append, length-take, length-replicate}
use lib.Seq.{drop_at}
use borrow.Author.Tests.{eqb-false, leb-true, leb-false, not-true}
use Rattle.choice.specs.Choice.{pick, lookup}
use Rattle.stun.specs.declared.kinds.AttributeKind.{AttributeKind}
use Rattle.stun.specs.declared.kinds.AttributeKind.TheVariants as Is
use Rattle.stun.specs.declared.message.Attribute.{Attribute}
use Rattle.stun.specs.Kinds.{attribute_kinds, attribute_kind_of, unknown_kind}
use Rattle.stun.specs.Message.{attributes, is_unknown, unknown_numbers, unknown_types}
use Rattle.slot.specs.declared.Slot.{Slot}
use Rattle.rules.specs.declared.requests.ClientCall.{ClientCall}
use Rattle.rules.specs.Change.{check}
use Rattle.rules.specs.Values.{any_unknown}
use Rattle.rules.specs.Requests.{request_code, own_code}
use Rattle.allocation_rules.specs.Allocations.{Room, allocate_code, refresh_code}
use Rattle.permission_rules.specs.Permissions.{create_permission_code, channel_bind_code}
use Rattle.client_reader.specs.Fields.{TypesInRange}
use Rattle.history.proofs.Tests.{clash}

-- ---- Codes: none, or 300 to 699, and 420 where some attribute is unknown
pub record Coded (s : List ℕ) (code : ℕ) : Type 0 where
  pub range : (code ≡ 0) ⊎ ((300 ≤ code) × (code ≤ 699))
  pub unknown : code ≡ 420 → any_unknown s ≡ true

-- a code that carries no types
abbrev plain : ℕ → Bool
plain code = pick (leb 300 code) (pick (leb code 699) (not (eqb code 420)) false) false

module _ (s : List ℕ) where
  none : Coded s 0
  none = record { range = inl refl; unknown = λ e. let y : ⊥ = omega arith in absurd y }

  step : (b : Bool) (code rest : ℕ) → plain code ≡ true → Coded s rest → Coded s (check b code rest)
  unfolding check
  step false code rest p h = h
  step true code rest p h = go (leb 300 code) refl (leb code 699) refl (eqb code 420) refl p
    where
      go : (a : Bool) → leb 300 code ≡ a → (b : Bool) → leb code 699 ≡ b → (c : Bool) → eqb code 420 ≡ c → pick a (pick b (not c) false) false ≡ true → Coded s code
      go true e true f false g p = record { range = inr (leb-true 300 code e, leb-true code 699 f); unknown = λ q. absurd (eqb-false code 420 g q) }
      go true e true f true g p = absurd (false≢true p)
      go true e false f c g p = absurd (false≢true p)
      go false e b f c g p = absurd (false≢true p)

  -- 420 is for unknown types
  types_step : (b : Bool) (rest : ℕ) → any_unknown s ≡ b → Coded s rest → Coded s (check b 420 rest)
  unfolding check
  types_step true rest e h = record { range = inr (omega arith, omega arith); unknown = λ q. e }
  types_step false rest e h = h

  module _ (call : ClientCall) where
    request : (rest : ℕ) → Coded s rest → Coded s (request_code call s rest)
    unfolding request_code
    request rest h = step _ 401 _ refl (types_step (any_unknown s) rest refl h)

    owner : (has : Bool) (slot : Slot) (rest : ℕ) → Coded s rest → Coded s (own_code call s has slot rest)
    unfolding own_code
    owner has slot rest h = request _ (step _ 437 _ refl (step _ 441 _ refl h))

    -- a repeat is no error
    again_step : (again : Bool) (rest : ℕ) → Coded s rest → Coded s (check again 0 rest)
    unfolding check
    again_step true rest h = none
    again_step false rest h = h

    pub allocate_coded : (again : Bool) (room : Room) → Coded s (allocate_code call s again room)
    unfolding allocate_code
    allocate_coded again room =
        request _
        (again_step again _
        (step _ 437 _ refl
        (step _ 400 _ refl
        (step _ 442 _ refl (step _ 400 _ refl (step _ 440 _ refl (step _ 400 _ refl (step _ 486 _ refl (step _ 508 _ refl none)))))))))

    pub refresh_coded : (has : Bool) (slot : Slot) → Coded s (refresh_code call s has slot)
    unfolding refresh_code
    refresh_coded has slot = owner has slot _ (step _ 400 _ refl (step _ 400 _ refl (step _ 443 _ refl none)))

    pub permission_coded : (denied has : Bool) (slot : Slot) → Coded s (create_permission_code call s denied has slot)
    unfolding create_permission_code
    permission_coded denied has slot =
        owner has slot _ (step _ 400 _ refl (step _ 400 _ refl (step _ 443 _ refl (step _ 403 _ refl (step _ 508 _ refl none)))))

    pub channel_coded : (denied has : Bool) (slot : Slot) → Coded s (channel_bind_code call s denied has slot)
    unfolding channel_bind_code
    channel_coded denied has slot =
        owner has slot _
        (step _ 400 _ refl
        (step _ 400 _ refl
        (step _ 400 _ refl (step _ 443 _ refl (step _ 403 _ refl (step _ 400 _ refl (step _ 400 _ refl (step _ 508 _ refl (step _ 508 _ refl none)))))))))

-- ---- Types: unknown ones are below 0x8000
abbrev all_known : List (ℕ × AttributeKind) → Bool
all_known [] = true
all_known (e ∷ t) = pick (unknown_kind e.1) false (all_known t)

-- where a table has no unknown kind, an unknown one is the default
by_default : (n : ℕ) (t : List (ℕ × AttributeKind)) (d : AttributeKind) → all_known t ≡ true → unknown_kind (lookup n t d) ≡ true → unknown_kind d ≡ true
by_default n [] d k e = e
by_default n (x ∷ t) d k e = go (unknown_kind x.1) refl (eqb n x.0) k e (by_default n t d)
  where
    go : (b : Bool) → unknown_kind x.1 ≡ b → (c : Bool) → pick b false (all_known t) ≡ true → unknown_kind (pick c x.1 (lookup n t d)) ≡ true
        → (all_known t ≡ true → unknown_kind (lookup n t d) ≡ true → unknown_kind d ≡ true) → unknown_kind d ≡ true
    go true q c k e ih = absurd (false≢true k)
    go false q true k e ih = clash _ e q
    go false q false k e ih = ih k e

unknown_below : (n : ℕ) → is_unknown n ≡ true → n < 0x8000
unfolding is_unknown attribute_kind_of
unknown_below n e = go (leb 0x8000 n) refl (by_default n attribute_kinds (pick (leb 0x8000 n) Is.Skipped Is.Unknown) refl e)
  where
    go : (b : Bool) → leb 0x8000 n ≡ b → unknown_kind (pick b Is.Skipped Is.Unknown) ≡ true → n < 0x8000
    go true q e = absurd (false≢true e)
    go false q e = leb-false 0x8000 n q

abbrev Below : List ℕ → Type 0
Below l = (i : ℕ) → get_or l i 0 < 0x8000

numbers_below : (l : List Attribute) → Below (unknown_numbers l)
unfolding unknown_numbers
numbers_below [] i = lit< tt
numbers_below (a ∷ l) i = go (is_unknown a.number) refl i (numbers_below l)
  where
    go : (b : Bool) → is_unknown a.number ≡ b → (i : ℕ) → Below (unknown_numbers l) → get_or (pick b (a.number ∷ unknown_numbers l) (unknown_numbers l)) i 0 < 0x8000
    go true e zero h = unknown_below a.number e
    go true e (suc i) h = h i
    go false e i h = h i

take_below : (n : ℕ) (l : List ℕ) → Below l → Below (take n l)
take_below zero l h i = lit< tt
take_below (suc n) [] h i = lit< tt
take_below (suc n) (x ∷ l) h zero = h 0
take_below (suc n) (x ∷ l) h (suc i) = take_below n l (λ j. h (suc j)) i

zeros_below : (k : ℕ) → Below (replicate k 0)
zeros_below zero i = lit< tt
zeros_below (suc k) zero = lit< tt
zeros_below (suc k) (suc i) = zeros_below k i

filled_below : (l : List ℕ) (k : ℕ) → Below l → Below (l ++ replicate k 0)
filled_below [] k h i = zeros_below k i
filled_below (x ∷ l) k h zero = h 0
filled_below (x ∷ l) k h (suc i) = filled_below l k (λ j. h (suc j)) i

-- the types of a 420, in the reader's array
pub types_in_range : (s : List ℕ) → any_unknown s ≡ true
    → TypesInRange (length (unknown_types s)) (unknown_types s ++ replicate (16 - length (unknown_types s)) 0)
unfolding any_unknown unknown_types
types_in_range s e =
    let types = take 16 (unknown_numbers (attributes s)) in
    let count = length types in
    let few : count ≤ 16 = rw length-take (omega arith) in
    let ne = eqb-false count 0 (not-true _ e) in
    record {
      some = some count ne;
      few = few;
      size = rw (length-append, length-replicate) (omega arith);
      rest = drop_at types (replicate (16 - count) 0) count refl;
      below = filled_below types (16 - count) (take_below 16 (unknown_numbers (attributes s)) (numbers_below (attributes s)));
    }
  where
    some : (n : ℕ) → (n ≡ 0 → ⊥) → 1 ≤ n
    some zero h = absurd (h refl)
    some (suc n) h = omega arith
