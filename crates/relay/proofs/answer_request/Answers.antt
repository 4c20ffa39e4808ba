-- The slot that was found lies in the table, and is the one that is read.
use Rattle.relay.proofs.Laws.{seen_within, owned, written_within, answered}
use Rattle.relay.proofs.answer_request.Goals as goal

pub found-own-requires : goal.found-own-requires
found-own-requires c = seen_within c.args.slots.now c.requires.0.1

pub write_found-requires : goal.write_found-requires
write_found-requires c =
    let a = c.args in
    let saw = c.requires.0.1 in
    let own = owned a.slots.now saw c.found-own.ensures in
    written_within a.slots.now a.call a.datagram.now a.reply.now a.seen saw (c.answer_call-answer.ensures a.slots.now saw.looked own)

pub returns : goal.returns
returns c =
    let a = c.args in
    let saw = c.requires.0.1 in
    let own = owned a.slots.now saw c.found-own.ensures in
    answered a.slots.now a.call a.datagram.now a.reply.now a.seen saw (c.answer_call-answer.ensures a.slots.now saw.looked own) c.write_found.ensures
