-- A refused call leaves everything as it was. One that is not refused is ready for what answers it, and does what an accepted call does.
use Rattle.state.proofs.Laws.{refused_step, none_refused, accepted-step}
use Rattle.relay.proofs.Laws.{not_refused}
use Rattle.relay.proofs.relay_datagram.Goals as goal

pub returns-in-Err : goal.returns-in-Err
returns-in-Err c =
    let a = c.args in
    rw c.number.ensures (refused_step a.slots.now a.bookkeeping.now a.call a.datagram.now a.reply.now c.refusal.ensures c.in-Err.is)

pub accept_call-requires : goal.accept_call-requires
accept_call-requires c =
    let a = c.args in
    let none = none_refused a.slots.now a.bookkeeping.now a.call a.datagram.now a.reply.now c.refusal.ensures c.in_default.is in
    (not_refused a.bookkeeping.now.clock a.slots.now a.datagram.now a.reply.now a.call none).ready

pub returns : goal.returns
returns c =
    let a = c.args in
    let none = none_refused a.slots.now a.bookkeeping.now a.call a.datagram.now a.reply.now c.refusal.ensures c.in_default.is in
    accepted-step a.slots.now a.bookkeeping.now a.call a.datagram.now a.reply.now none c.accept_call.ensures
