use mathlib.Core.Path.{refl}
use Rattle.wire.specs.Wire.{bytes_of}
use Rattle.messages.specs.Messages.{transaction_id_bytes}
use Rattle.messages.proofs.put_transaction_id.Goals as goal

pub returns : goal.returns
unfolding transaction_id_bytes bytes_of
returns c = c.put_at-2.ensures _ _ refl (c.put_at.ensures _ _ refl c.put.ensures)
