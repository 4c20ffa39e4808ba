use mathlib.Core.Path.{refl}
use mathlib.Core.List.{[]}
use Rattle.wire.specs.Wire.{bytes_of}
use Rattle.messages.specs.Messages.{header_bytes, bare_success}
use Rattle.messages.proofs.Laws.{message_sent}
use Rattle.messages.proofs.put_bare_success.Goals as goal

pub returns : goal.returns
unfolding header_bytes bare_success bytes_of
returns c = message_sent _ _ [] c.success_type.ensures refl refl c.put_header.ensures
