use Rattle.rules.proofs.Laws.{gives_message}
use Rattle.allocation_rules.proofs.give_allocated.Goals as goal

pub returns : goal.returns
returns c = rw (← c.transaction_id-id.ensures) (gives_message c.put_allocate_success-len.ensures)
