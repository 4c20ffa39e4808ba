-- When two addresses, transport addresses, 5-tuples and transaction ids are the same.
use Rattle.std.specs.Prelude.{Bool, false, eqb}
use Rattle.choice.specs.Choice.{both}
use Rattle.address.specs.declared.Address.{Address}
use Rattle.address.specs.declared.Address.TheVariants.{V4, V6}
use Rattle.address.specs.declared.TransportAddress.{TransportAddress}
use Rattle.address.specs.declared.FiveTuple.{FiveTuple}
use Rattle.address.specs.declared.TransactionId.{TransactionId}

-- of one family, and each word the same
unfoldable pub same_address : Address → Address → Bool
same_address (V4 a) (V4 b) = eqb a b
same_address (V4 a) (V6 e f g h) = false
same_address (V6 a b c d) (V4 e) = false
same_address (V6 a b c d) (V6 e f g h) = both (eqb a e) (both (eqb b f) (both (eqb c g) (eqb d h)))

-- address and port
unfoldable pub same_transport_address : TransportAddress → TransportAddress → Bool
same_transport_address a b = both (same_address a.address b.address) (eqb a.port b.port)

-- 'A 5-tuple is client address and port, server address and port, and protocol.'
unfoldable pub same_five_tuple : FiveTuple → FiveTuple → Bool
same_five_tuple a b = both (same_transport_address a.client b.client) (both (same_transport_address a.server b.server) (eqb a.protocol b.protocol))

-- request 1: 'with the same id', each word the same
unfoldable pub same_transaction_id : TransactionId → TransactionId → Bool
same_transaction_id a b = both (eqb a.high b.high) (both (eqb a.middle b.middle) (eqb a.low b.low))
