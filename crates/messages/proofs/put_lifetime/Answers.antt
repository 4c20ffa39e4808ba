use mathlib.Core.Path.{refl}
use Rattle.wire.specs.Wire.{bytes_of}
use Rattle.messages.specs.Messages.{lifetime_attribute}
use Rattle.messages.specs.Inner.{attribute_head}
use Rattle.messages.proofs.put_lifetime.Goals as goal

pub returns : goal.returns
unfolding lifetime_attribute attribute_head bytes_of
returns c = c.put_at.ensures _ _ refl c.put_attribute_head.ensures
