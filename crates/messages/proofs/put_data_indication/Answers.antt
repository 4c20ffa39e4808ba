use mathlib.Core.Path.{refl}
use mathlib.Core.List.{◌++◌}
use native.Mathlib.Omega.{arith}
use Rattle.wire.specs.Wire.{bytes_of}
use Rattle.wire.proofs.Laws.{wrote_then}
use Rattle.address.specs.declared.Address.TheVariants.{V4}
use Rattle.messages.specs.Messages.{header_bytes, address_attribute, data_attribute, data_indication}
use Rattle.messages.proofs.Laws.{length_attribute, message_sent}
use Rattle.messages.proofs.put_data_indication.Goals as goal

pub returns : goal.returns
unfolding header_bytes data_indication bytes_of
returns c =
    let a = c.args in
    let size = length_attribute 0x0013 a.payload.now in
    let peer = wrote_then c.put_header.ensures refl (c.put_v4_address.ensures a.id) in
    message_sent 0x0017 a.id (address_attribute 0x0012 a.id (V4 a.peer) a.port ++ data_attribute a.payload.now) refl (omega (arith, size)) refl (wrote_then peer refl c.put_data.ensures.wrote)
