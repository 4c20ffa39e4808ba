use Rattle.slot.specs.Slot.{fresh_slot}
use Rattle.slot.proofs.fresh_slot.Goals as goal

pub returns : goal.returns
unfolding fresh_slot
returns c =
    rw (
      c.fresh_channel-channel.ensures,
      c.fresh_permission-permission.ensures,
      c.fresh_transaction_id-transaction_id.ensures,
      c.fresh_allocation-allocation.ensures,
    )
