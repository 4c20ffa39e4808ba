use Rattle.std.proofs.Common.{rules}
use Rattle.std.proofs.lemmas.Iterator.{YieldsList-from_slice}
use Rattle.slot.proofs.Laws.{found_by}
use Rattle.table.specs.Table.{in_slot}
use Rattle.table.specs.Inner.{keyed}
use Rattle.table.proofs.search.Goals as goal

pub returns : goal.returns
returns c = found_by (in_slot (keyed c.args.time c.args.key)) _ c.position.ensures.ran (YieldsList-from_slice c.args.slots.now cc) (λ x b q k. search rules)
