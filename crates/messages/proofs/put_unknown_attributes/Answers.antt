use mathlib.Core.Path.{refl, sym}
use native.Mathlib.Omega.{arith}
use Rattle.wire.specs.Wire.{bytes_of}
use Rattle.wire.proofs.Laws.{wrote_then}
use Rattle.messages.specs.Messages.{types_bytes, unknown_attribute}
use Rattle.messages.specs.Inner.{attribute_head}
use Rattle.messages.proofs.Laws.{attribute_sent, length_types}
use Rattle.messages.proofs.put_unknown_attributes.Goals as goal

pub returns : goal.returns
unfolding attribute_head unknown_attribute bytes_of
returns c =
    let a = c.args in
    let n = length_types a.types.now in
    let value = wrote_then c.put_attribute_head.ensures refl c.put_types.ensures in
    attribute_sent 0x000a (types_bytes a.types.now) (sym n) c.padding.ensures c.attribute_size.ensures (wrote_then value (omega (arith, n)) c.put_zeros.ensures)
