use Rattle.std.proofs.Common.{rules}
use Rattle.std.proofs.lemmas.Iterator.{YieldsList-from_slice}
use Rattle.slot.specs.Slot.{permits}
use Rattle.slot.proofs.Laws.{found_by}
use Rattle.slot.proofs.permissions.find_permission.Goals as goal

pub returns : goal.returns
returns c = found_by (permits c.args.time c.args.address) _ c.position.ensures.ran (YieldsList-from_slice c.args.permissions cc) (λ x b q k. search rules)
