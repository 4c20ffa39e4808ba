-- Each test of equality says equality: true means equal, and a value equals itself.
use mathlib.Core.Path.{◌≡◌, refl, ap, ◌∙◌}
use lib.Dec.{eqb}
use mathlib.Core.Bool.{Bool, true, false, ◌&&◌, false≢true}
use borrow.Author.Tests.{eqb-true, eq-eqb, ne_eqb}
use Rattle.choice.specs.Choice.{both}
use Rattle.choice.proofs.Laws.{and_both, both_parts, both_true, both_no}
use Rattle.address.specs.declared.Address.{Address}
use Rattle.address.specs.declared.Address.TheVariants.{V4, V6}
use Rattle.address.specs.declared.TransportAddress.{TransportAddress}
use Rattle.address.specs.declared.FiveTuple.{FiveTuple}
use Rattle.address.specs.declared.TransactionId.{TransactionId}
use Rattle.address.specs.Address.{same_address, same_transport_address, same_five_tuple, same_transaction_id}
use Rattle.address.specs.contracts.AddressPartialEq.TheImpl as address_eq
use Rattle.address.specs.contracts.TransportAddressPartialEq.TheImpl as transport_address_eq
use Rattle.address.specs.contracts.FiveTuplePartialEq.TheImpl as five_tuple_eq
use Rattle.address.specs.contracts.TransactionIdPartialEq.TheImpl as transaction_id_eq

pub address_same : (a b : Address) → same_address a b ≡ true → a ≡ b
unfolding same_address
address_same (V4 a) (V4 b) e = let p : a ≡ b = eqb-true a b e in cc
address_same (V4 a) (V6 e f g h) n = absurd (false≢true n)
address_same (V6 a b c d) (V4 e) n = absurd (false≢true n)
address_same (V6 a b c d) (V6 e f g h) n =
    let x = both_parts _ _ n in
    let y = both_parts _ _ x.1 in
    let z = both_parts _ _ y.1 in
    let p : a ≡ e = eqb-true _ _ x.0 in
    let q : b ≡ f = eqb-true _ _ y.0 in
    let r : c ≡ g = eqb-true _ _ z.0 in
    let s : d ≡ h = eqb-true _ _ z.1 in
    cc

pub address_refl : (a : Address) → same_address a a ≡ true
unfolding same_address
address_refl (V4 a) = eq-eqb a a refl
address_refl (V6 a b c d) =
    both_true _ _ (eq-eqb a a refl) (both_true _ _ (eq-eqb b b refl) (both_true _ _ (eq-eqb c c refl) (eq-eqb d d refl)))

-- other ports are other transport addresses
pub other_port : (a b : TransportAddress) → (a.port ≡ b.port → ⊥) → false ≡ same_transport_address a b
unfolding same_transport_address
other_port a b n = rw (ne_eqb a.port b.port n, both_no)

pub transport_address_same : (a b : TransportAddress) → same_transport_address a b ≡ true → a ≡ b
unfolding same_transport_address
transport_address_same a b e =
    let x = both_parts _ _ e in
    let p = address_same _ _ x.0 in
    let q : a.port ≡ b.port = eqb-true _ _ x.1 in
    λ i. record { address = p i; port = q i }

pub transport_address_refl : (a : TransportAddress) → same_transport_address a a ≡ true
unfolding same_transport_address
transport_address_refl a = both_true _ _ (address_refl a.address) (eq-eqb a.port a.port refl)

-- other ports of the clients are other 5-tuples
pub other_client_port : (a b : FiveTuple) → (a.client.port ≡ b.client.port → ⊥) → same_five_tuple a b ≡ false
unfolding same_five_tuple both
other_client_port a b n = rw (← other_port a.client b.client n)

pub five_tuple_same : (a b : FiveTuple) → same_five_tuple a b ≡ true → a ≡ b
unfolding same_five_tuple
five_tuple_same a b e =
    let x = both_parts _ _ e in
    let y = both_parts _ _ x.1 in
    let p = transport_address_same _ _ x.0 in
    let q = transport_address_same _ _ y.0 in
    let r : a.protocol ≡ b.protocol = eqb-true _ _ y.1 in
    λ i. record { client = p i; server = q i; protocol = r i }

pub five_tuple_refl : (a : FiveTuple) → same_five_tuple a a ≡ true
unfolding same_five_tuple
five_tuple_refl a =
    both_true _ _ (transport_address_refl a.client) (both_true _ _ (transport_address_refl a.server) (eq-eqb a.protocol a.protocol refl))

-- ---- what `==` computes
pub eq_address : (a b : Address) → (address_eq.ghosts).eq a b ≡ same_address a b
unfolding same_address
eq_address (V4 a) (V4 b) = refl
eq_address (V4 a) (V6 e f g h) = refl
eq_address (V6 a b c d) (V4 e) = refl
eq_address (V6 a b c d) (V6 e f g h) = rw (and_both, and_both, and_both)

pub eq_transport_address : (a b : TransportAddress) → (transport_address_eq.ghosts).eq a b ≡ same_transport_address a b
unfolding same_transport_address
eq_transport_address a b =
    ap (λ (same : Bool). same && eqb a.port b.port) (eq_address a.address b.address) ∙ and_both (same_address a.address b.address) (eqb a.port b.port)

pub eq_five_tuple : (a b : FiveTuple) → (five_tuple_eq.ghosts).eq a b ≡ same_five_tuple a b
unfolding same_five_tuple
eq_five_tuple a b = rw (eq_transport_address a.client b.client, eq_transport_address a.server b.server, and_both, and_both)

pub eq_transaction_id : (a b : TransactionId) → (transaction_id_eq.ghosts).eq a b ≡ same_transaction_id a b
unfolding same_transaction_id
eq_transaction_id a b = rw (and_both, and_both)
