use mathlib.Core.Path.{refl}
use Rattle.wire.specs.Wire.{bytes_of}
use Rattle.messages.specs.Inner.{address_head}
use Rattle.messages.proofs.put_address_head.Goals as goal

pub returns : goal.returns
unfolding address_head bytes_of
returns c = c.put_at-2.ensures _ _ refl (c.put_at.ensures _ _ refl c.put_attribute_head.ensures)
