use mathlib.Core.Path.{refl}
use Rattle.wire.specs.Wire.{bytes_of}
use Rattle.wire.proofs.Laws.{wrote_then}
use Rattle.messages.specs.Messages.{header_bytes, lifetime_attribute, refresh_success}
use Rattle.messages.proofs.Laws.{message_sent}
use Rattle.messages.proofs.put_refresh_success.Goals as goal

pub returns : goal.returns
unfolding header_bytes refresh_success bytes_of
returns c =
    let a = c.args in
    message_sent 0x0104 a.id (lifetime_attribute a.seconds) refl refl refl (wrote_then c.put_header.ensures refl c.put_lifetime.ensures)
