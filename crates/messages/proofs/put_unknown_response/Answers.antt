use mathlib.Core.Path.{refl, ap, ◌∙◌}
use mathlib.Core.List.{◌++◌}
use native.Mathlib.Omega.{arith}
use Rattle.wire.specs.Wire.{bytes_of}
use Rattle.wire.proofs.Laws.{wrote_then}
use Rattle.messages.specs.Messages.{header_bytes, error_code_attribute, types_bytes, unknown_attribute, unknown_response}
use Rattle.messages.specs.Inner.{attribute_size}
use Rattle.messages.proofs.Laws.{length_types, length_attribute, message_sent}
use Rattle.messages.proofs.put_unknown_response.Goals as goal

pub returns : goal.returns
unfolding header_bytes unknown_response bytes_of
returns c =
    let a = c.args in
    let types = a.types.now in
    let size = length_attribute 0x000a (types_bytes types) ∙ ap attribute_size (length_types types) in
    let code = wrote_then c.put_header.ensures refl c.put_error_code.ensures in
    message_sent _ a.id (error_code_attribute 420 ++ unknown_attribute types) c.error_type.ensures (omega (arith, size)) refl (wrote_then code refl c.put_unknown_attributes.ensures.wrote)
