use mathlib.Core.Path.{refl}
use Rattle.wire.proofs.Laws.{wrote_number}
use Rattle.wire.proofs.U16Number.put.Goals as goal

pub returns : goal.returns
returns c = wrote_number 2 _ c.requires (rw (c.copy_from_slice.ensures.after, c.to_be_bytes.ensures) refl)
