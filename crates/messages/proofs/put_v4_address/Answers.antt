use mathlib.Core.Path.{refl}
use Rattle.wire.specs.Wire.{bytes_of}
use Rattle.messages.specs.Messages.{address_attribute}
use Rattle.messages.specs.Inner.{address_head}
use Rattle.messages.proofs.put_v4_address.Goals as goal

pub returns : goal.returns
unfolding address_attribute address_head bytes_of
returns c id = c.put_at.ensures _ _ refl c.put_address_head.ensures
