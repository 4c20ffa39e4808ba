-- A datagram that asks for a request's rule has that request's type.
use Prim.Native.Nat.{ℕ}
use mathlib.Core.Path.{◌≡◌, refl, ◌∙◌}
use mathlib.Core.Logic.{◌⊎◌, inl, inr}
use mathlib.Core.Bool.{Bool, true, false, false≢true}
use mathlib.Core.List.{List, [], ◌∷◌}
use native.Mathlib.Omega.{arith}
use lib.Dec.{eqb}
use borrow.Author.Tests.{eqb-true, eq-eqb}
use Rattle.wire.specs.Wire.{num}
use Rattle.choice.specs.Choice.{pick, lookup}
use Rattle.stun.specs.declared.kinds.Class.{Class}
use Rattle.stun.specs.declared.kinds.Method.{Method}
use Rattle.stun.specs.declared.kinds.Method.TheVariants.{Allocate, Refresh, CreatePermission, ChannelBind}
use Rattle.stun.specs.declared.kinds.MessageKind.{MessageKind}
use Rattle.stun.specs.declared.kinds.MessageKind.TheVariants as Kind
use Rattle.stun.specs.Kinds.{request_type, message_kinds, message_kind_of}
use Rattle.stun.specs.Message.{sorted, is_well_formed}
use Rattle.decisions.specs.declared.client.Asked.{Asked}
use Rattle.decisions.specs.Client.{request_asks, kind_asks, class_asks, asked_by}
use Rattle.history.specs.Events.{asks}

-- the type of what is asked, and 0 where it is no request
abbrev type_asked : Asked → ℕ
type_asked Asked.Allocate = request_type Allocate
type_asked Asked.Refresh = request_type Refresh
type_asked Asked.CreatePermission = request_type CreatePermission
type_asked Asked.ChannelBind = request_type ChannelBind
type_asked Asked.Send = 0
type_asked Asked.ChannelData = 0
type_asked Asked.Nothing = 0

abbrev NoneOr : ℕ → ℕ → Type 0
NoneOr n m = (m ≡ 0) ⊎ (n ≡ m)

-- in the table of kinds each request stands beside its own type
abbrev all_own : List (ℕ × MessageKind) → Bool
all_own [] = true
all_own (e ∷ t) = pick (pick (eqb (type_asked (kind_asks e.1)) 0) true (eqb e.0 (type_asked (kind_asks e.1)))) (all_own t) false

from_table : (n : ℕ) (t : List (ℕ × MessageKind)) → all_own t ≡ true → NoneOr n (type_asked (kind_asks (lookup n t Kind.Other)))
from_table n [] own = inl refl
from_table n (e ∷ t) own =
    go (eqb n e.0) refl (eqb (type_asked (kind_asks e.1)) 0) refl (eqb e.0 (type_asked (kind_asks e.1))) refl own (from_table n t)
  where
    go : (b : Bool) → eqb n e.0 ≡ b → (z : Bool) → eqb (type_asked (kind_asks e.1)) 0 ≡ z → (k : Bool) → eqb e.0 (type_asked (kind_asks e.1)) ≡ k
        → pick (pick z true k) (all_own t) false ≡ true
        → (all_own t ≡ true → NoneOr n (type_asked (kind_asks (lookup n t Kind.Other))))
        → NoneOr n (type_asked (kind_asks (pick b e.1 (lookup n t Kind.Other))))
    go true p true q k r own ih = inl (eqb-true _ _ q)
    go true p false q true r own ih = inr (eqb-true n e.0 p ∙ eqb-true e.0 _ r)
    go true p false q false r own ih = absurd (false≢true own)
    go false p true q k r own ih = ih own
    go false p false q true r own ih = ih own
    go false p false q false r own ih = absurd (false≢true own)

type_asked_lem : (s : List ℕ) → NoneOr (num s 0 2) (type_asked (asked_by s))
unfolding asked_by
type_asked_lem s = go (sorted s)
  where
    formed : (b : Bool) → NoneOr (num s 0 2) (type_asked (pick b (kind_asks (message_kind_of (num s 0 2))) Asked.Nothing))
    formed true = from_table (num s 0 2) message_kinds refl
    formed false = inl refl

    go : (class : Class) → NoneOr (num s 0 2) (type_asked (class_asks s class))
    go Class.Stun = formed (is_well_formed s)
    go Class.ChannelData = inl refl
    go Class.Neither = inl refl

pub asks_for : (method : Method) (s : List ℕ) → asked_by s ≡ request_asks method → asks method s ≡ true
asks_for method s e = go method (rw e at (type_asked_lem s))
  where
    go : (m : Method) → NoneOr (num s 0 2) (type_asked (request_asks m)) → asks m s ≡ true
    go Allocate (inl z) = let y : ⊥ = omega arith in absurd y
    go Allocate (inr q) = eq-eqb _ _ q
    go Refresh (inl z) = let y : ⊥ = omega arith in absurd y
    go Refresh (inr q) = eq-eqb _ _ q
    go CreatePermission (inl z) = let y : ⊥ = omega arith in absurd y
    go CreatePermission (inr q) = eq-eqb _ _ q
    go ChannelBind (inl z) = let y : ⊥ = omega arith in absurd y
    go ChannelBind (inr q) = eq-eqb _ _ q

-- a request has one type
pub asks_no_other : (one other : Method) (s : List ℕ) → eqb (request_type one) (request_type other) ≡ false → asks one s ≡ true → asks other s ≡ false
asks_no_other one other s differ e = let type : num s 0 2 ≡ request_type one = eqb-true _ _ e in rw (type, differ)
