use mathlib.Core.Path.{refl}
use Rattle.wire.specs.Wire.{bytes_of}
use Rattle.messages.specs.Messages.{address_attribute}
use Rattle.messages.specs.Inner.{address_head}
use Rattle.messages.proofs.put_address.Goals as goal

pub returns-in-V6 : goal.returns-in-V6
unfolding address_attribute address_head bytes_of
returns-in-V6 c =
    let first = c.put_at.ensures _ _ refl c.put_address_head.ensures in
    let second = c.put_at-in-V6.ensures _ _ refl first in
    let third = c.put_at-in-V6-2.ensures _ _ refl second in
    rw c.in-V6.is (c.put_at-in-V6-3.ensures _ _ refl third, refl)
