-- The fields that are read at their places are in range.
use Prim.Native.Nat.{ℕ, ◌+◌, ◌-◌, ◌/◌, ◌^◌, ◌≤◌, ◌<◌}
use mathlib.Core.Path.{◌≡◌, refl}
use mathlib.Core.List.{List}
use mathlib.Core.Bool.{Bool, true, false}
use lib.ListN.{length, get_or, replicate, length-append, length-replicate}
use lib.Seq.{drop_at}
use lib.Bits.{bit_xor}
use lib.Dec.{leb, eqb, lit<}
use native.Mathlib.Omega.{arith}
use borrow.Author.Tests.{leb-true, eqb-false}
use Rattle.std.proofs.Common.{Option, Some, None}
use Rattle.wire.specs.Wire.{num}
use Rattle.wire.proofs.Laws.{xor_lt}
use Rattle.choice.specs.Choice.{pick, both}
use Rattle.choice.proofs.Laws.{both_parts}
use Rattle.stun.specs.declared.kinds.Method.{Method}
use Rattle.stun.specs.declared.kinds.Method.TheVariants.{Allocate, Refresh, CreatePermission, ChannelBind}
use Rattle.stun.specs.declared.kinds.MessageKind.{MessageKind}
use Rattle.stun.specs.declared.kinds.MessageKind.TheVariants as Kind
use Rattle.address.specs.declared.TransportAddress.{TransportAddress}
use Rattle.stun.specs.Kinds.{message_kind_of}
use Rattle.stun.specs.Values.{transaction_id_of, peer_or_nobody, address_at, v4_at, v6_at}
use Rattle.client_reader.proofs.Around.{num_lt}
use Rattle.client_reader.proofs.Types.{length_types_from, all_below_lem}
use Rattle.std.specs.Prelude.{Option, IfSome}
use Rattle.client_reader.specs.declared.Message.{Message}
use Rattle.client_reader.specs.Fields.{Bytes, IdFits, AddressFits, TypesInRange, DataInRange, InRange}
use Rattle.slot.specs.Slot.{is_channel_number}
use Rattle.client_reader.specs.Inner.{when, fields_of, allocate_fields, refresh_fields, bare_fields, types_from, types_of, all_below, count_fits, unknown_fields, code_of, plain_error_fields, error_fields, data_fits, indication_fields, channel_fields, stun_fields}

module _ (s : List ℕ) (h : Bytes s) where
  abbrev Fits : Option Message → Type 0
  Fits o = IfSome o (λ m. InRange m s)

  when_fits : (test : Bool) (m : Option Message) → (test ≡ true → Fits m) → Fits (when test m)
  when_fits true m f = f refl
  when_fits false m f = tt

  xor_fits : (at w key : ℕ) → key < 256 ^ w → bit_xor (num s at w) key < 256 ^ w
  xor_fits at w key k = xor_lt w (num s at w) key (num_lt s h at w) k

  id_fits : IdFits (transaction_id_of s)
  unfolding transaction_id_of
  id_fits = (num_lt s h 8 4, num_lt s h 12 4, num_lt s h 16 4)

  abbrev pub ValueFits : Option TransportAddress → Type 0
  ValueFits v = AddressFits (peer_or_nobody v).address × ((peer_or_nobody v).port < 2 ^ 16)

  pub address_fits : (at len : ℕ) → ValueFits (address_at s at len)
  unfolding address_at v4_at v6_at
  address_fits at len = go (both (eqb len 8) (eqb (get_or s (at + 1) 0) 1)) (both (eqb len 20) (eqb (get_or s (at + 1) 0) 2))
    where
      go : (four six : Bool) → ValueFits (pick four (Some (v4_at s at)) (pick six (Some (v6_at s at)) None))
      go true six = (xor_fits (at + 4) 4 0x2112_a442 (lit< tt), xor_fits (at + 2) 2 0x2112 (lit< tt))
      go false true = (
        (
          xor_fits (at + 4) 4 0x2112_a442 (lit< tt),
          xor_fits (at + 8) 4 (num s 8 4) (num_lt s h 8 4),
          xor_fits (at + 12) 4 (num s 12 4) (num_lt s h 12 4),
          xor_fits (at + 16) 4 (num s 16 4) (num_lt s h 16 4),
        ),
        xor_fits (at + 2) 2 0x2112 (lit< tt),
      )
      go false false = (lit< tt, lit< tt)

  allocate_fits : Fits (allocate_fields s)
  unfolding allocate_fields
  allocate_fits = when_fits (leb 44 (length s)) _
      (λ t. (id_fits, xor_fits 28 4 0x2112_a442 (lit< tt), xor_fits 26 2 0x2112 (lit< tt), num_lt s h 36 4, (address_fits 44 (length s - 44)).0, (address_fits 44 (length s - 44)).1))

  refresh_fits : Fits (refresh_fields s)
  unfolding refresh_fields
  refresh_fits = when_fits (leb 28 (length s)) _ (λ t. (id_fits, num_lt s h 24 4))

  data_in : (start len : ℕ) → data_fits start len s ≡ true → DataInRange start start len s
  unfolding data_fits
  data_in start len t =
      let p = both_parts _ _ t in record { from = refl; few = leb-true _ _ p.0; within = leb-true _ _ p.1 }

  indication_fits : Fits (indication_fields s)
  unfolding indication_fields
  indication_fits =
      when_fits (leb 36 (length s)) _ (λ t.
      when_fits (data_fits 36 (num s 34 2) s) _ (λ t.
      (id_fits, xor_fits 28 4 0x2112_a442 (lit< tt), xor_fits 26 2 0x2112 (lit< tt), data_in 36 (num s 34 2) t)))

  channel_fits : is_channel_number (num s 0 2) ≡ true → Fits (channel_fields s)
  unfolding is_channel_number channel_fields
  channel_fits c =
      when_fits (data_fits 4 (num s 2 2) s) _ (λ t.
      let p = both_parts _ _ c in (leb-true _ _ p.0, leb-true _ _ p.1, data_in 4 (num s 2 2) t))

  types_in : (count : ℕ) → count_fits count s ≡ true → all_below 0x8000 (types_of s count) ≡ true → TypesInRange count (types_of s count)
  unfolding count_fits types_of
  types_in count t b =
      let p = both_parts _ _ t in
      let few : count ≤ 16 = leb-true _ _ (both_parts _ _ p.1).0 in
      record {
        some = leb-true _ _ p.0;
        few = few;
        size = rw (length-append, length_types_from, length-replicate) (omega arith);
        rest = drop_at (types_from s 32 count) (replicate (16 - count) 0) count (length_types_from s 32 count);
        below = all_below_lem 0x8000 (types_of s count) (lit< tt) b;
      }

  unknown_fits : (method : Method) (count : ℕ) → Fits (unknown_fields method s count)
  unfolding unknown_fields
  unknown_fits method count =
      when_fits (count_fits count s) _ (λ t.
      when_fits (all_below 0x8000 (types_of s count)) _ (λ b. (id_fits, types_in count t b)))

  plain_error_fits : (method : Method) (code : ℕ) → (code ≡ 420 → ⊥) → Fits (plain_error_fields method s code)
  unfolding plain_error_fields
  plain_error_fits method code other =
      when_fits (both (leb 300 code) (leb code 699)) _ (λ t.
      let p = both_parts _ _ t in (id_fits, leb-true _ _ p.0, leb-true _ _ p.1, other))

  error_fits : (method : Method) → Fits (error_fields method s)
  unfolding error_fields
  error_fits method = when_fits (leb 28 (length s)) _ (λ t. go (eqb (code_of s) 420) refl)
    where
      go : (b : Bool) → eqb (code_of s) 420 ≡ b
          → Fits (pick b (when (leb 32 (length s)) (unknown_fields method s (num s 30 2 / 2))) (plain_error_fields method s (code_of s)))
      go true e = when_fits (leb 32 (length s)) _ (λ t. unknown_fits method (num s 30 2 / 2))
      go false e = plain_error_fits method (code_of s) (eqb-false (code_of s) 420 e)

  stun_fits : (kind : MessageKind) → Fits (stun_fields kind s)
  unfolding bare_fields
  stun_fits (Kind.Request method) = tt
  stun_fits (Kind.Success Allocate) = allocate_fits
  stun_fits (Kind.Success Refresh) = refresh_fits
  stun_fits (Kind.Success CreatePermission) = (id_fits, tt)
  stun_fits (Kind.Success ChannelBind) = (id_fits, tt)
  stun_fits (Kind.Error method) = error_fits method
  stun_fits Kind.SendIndication = tt
  stun_fits Kind.DataIndication = indication_fits
  stun_fits Kind.Other = tt

  pub in_range : IfSome (fields_of s) (λ m. InRange m s)
  unfolding fields_of
  in_range = when_fits (leb 4 (length s)) _ (λ t. go (is_channel_number (num s 0 2)) refl)
    where
      go : (b : Bool) → is_channel_number (num s 0 2) ≡ b → Fits (pick b (channel_fields s) (when (leb 20 (length s)) (stun_fields (message_kind_of (num s 0 2)) s)))
      go true c = channel_fits c
      go false c = when_fits (leb 20 (length s)) _ (λ t. stun_fits (message_kind_of (num s 0 2)))
