use mathlib.Core.Path.{refl}
use Rattle.wire.specs.Wire.{bytes_of}
use Rattle.messages.specs.Messages.{error_code_attribute}
use Rattle.messages.specs.Inner.{attribute_head}
use Rattle.messages.proofs.put_error_code.Goals as goal

pub returns : goal.returns
unfolding error_code_attribute attribute_head bytes_of
returns c = c.put_at-3.ensures _ _ refl (c.put_at-2.ensures _ _ refl (c.put_at.ensures _ _ refl c.put_attribute_head.ensures))
