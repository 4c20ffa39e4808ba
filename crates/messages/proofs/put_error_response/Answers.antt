use mathlib.Core.Path.{refl}
use Rattle.wire.specs.Wire.{bytes_of}
use Rattle.wire.proofs.Laws.{wrote_then}
use Rattle.messages.specs.Messages.{header_bytes, error_code_attribute, error_response}
use Rattle.messages.proofs.Laws.{message_sent}
use Rattle.messages.proofs.put_error_response.Goals as goal

pub returns : goal.returns
unfolding header_bytes error_response bytes_of
returns c =
    let a = c.args in
    message_sent _ a.id (error_code_attribute a.code) c.error_type.ensures refl refl (wrote_then c.put_header.ensures refl c.put_error_code.ensures)
