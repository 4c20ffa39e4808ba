use mathlib.Core.Path.{refl}
use native.Mathlib.Omega.{arith}
use Rattle.wire.specs.Wire.{bytes_of}
use Rattle.wire.proofs.Laws.{wrote_then}
use Rattle.messages.specs.Messages.{channel_data}
use Rattle.messages.proofs.put_channel_data.Goals as goal

pub returns : goal.returns
unfolding channel_data bytes_of
returns c = record { wrote = wrote_then (c.put_at.ensures _ _ refl c.put.ensures) refl c.put_bytes.ensures; size = omega arith }
