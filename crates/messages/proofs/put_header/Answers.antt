use mathlib.Core.Path.{refl}
use Rattle.wire.specs.Wire.{bytes_of}
use Rattle.wire.proofs.Laws.{wrote_then}
use Rattle.messages.specs.Messages.{header_bytes}
use Rattle.messages.proofs.put_header.Goals as goal

pub returns : goal.returns
unfolding header_bytes bytes_of
returns c = wrote_then (c.put_at-2.ensures _ _ refl (c.put_at.ensures _ _ refl c.put.ensures)) refl c.put_transaction_id.ensures
