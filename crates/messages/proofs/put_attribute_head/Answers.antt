use Rattle.wire.proofs.Laws.{length_bytes}
use Rattle.messages.specs.Inner.{attribute_head}
use Rattle.messages.proofs.put_attribute_head.Goals as goal

pub returns : goal.returns
unfolding attribute_head
returns c = c.put_at.ensures _ _ (length_bytes 2 _) c.put.ensures
