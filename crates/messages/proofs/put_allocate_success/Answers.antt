use mathlib.Core.Path.{refl}
use mathlib.Core.List.{◌++◌}
use native.Mathlib.Omega.{arith}
use Rattle.wire.specs.Wire.{bytes_of}
use Rattle.wire.proofs.Laws.{wrote_then}
use Rattle.address.specs.declared.Address.TheVariants.{V4}
use Rattle.messages.specs.Messages.{header_bytes, address_attribute, lifetime_attribute, allocate_success}
use Rattle.messages.proofs.Laws.{length_address, message_sent}
use Rattle.messages.proofs.put_allocate_success.Goals as goal

pub returns : goal.returns
unfolding header_bytes allocate_success bytes_of
returns c =
    let a = c.args in
    let mapped = address_attribute 0x0020 a.id a.client.address a.client.port in
    let size = length_address 0x0020 a.id a.client.address a.client.port in
    let relayed = wrote_then c.put_header.ensures refl (c.put_v4_address.ensures a.id) in
    let lifetime = wrote_then relayed refl c.put_lifetime.ensures in
    message_sent 0x0103 a.id (address_attribute 0x0016 a.id (V4 a.relay) a.port ++ lifetime_attribute a.seconds ++ mapped) refl (omega (arith, size)) refl (wrote_then lifetime refl c.put_address.ensures.0)
