use mathlib.Core.Path.{refl}
use native.Mathlib.Omega.{arith}
use Rattle.wire.specs.Wire.{bytes_of}
use Rattle.wire.proofs.Laws.{wrote_then}
use Rattle.messages.specs.Messages.{data_attribute}
use Rattle.messages.specs.Inner.{attribute_head}
use Rattle.messages.proofs.Laws.{attribute_sent}
use Rattle.messages.proofs.put_data.Goals as goal

pub returns : goal.returns
unfolding attribute_head data_attribute bytes_of
returns c =
    let value = wrote_then c.put_attribute_head.ensures refl c.put_bytes.ensures in
    attribute_sent 0x0013 c.args.payload.now refl c.padding.ensures c.attribute_size.ensures (wrote_then value (omega arith) c.put_zeros.ensures)
