use Rattle.std.proofs.Common.{rules}
use Rattle.std.proofs.lemmas.Iterator.{YieldsList-from_slice}
use Rattle.slot.specs.Slot.{free_permission}
use Rattle.slot.proofs.Laws.{found_by}
use Rattle.slot.proofs.permissions.lowest_free.Goals as goal

pub returns : goal.returns
unfolding free_permission
returns c = found_by (free_permission c.args.time) _ c.position.ensures.ran (YieldsList-from_slice c.args.permissions cc) (λ x b q k. search rules)
