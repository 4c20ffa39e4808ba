-- Data is about the slot that was found, which lies in the table, and writes none.
use mathlib.Core.Path.{sym, ◌∙◌}
use Rattle.relay.proofs.Laws.{saw_asked, seen_within, owned, answered, data_back}
use Rattle.relay.proofs.answer_asked.Goals as goal

pub found-requires : goal.found-requires
found-requires c = seen_within c.args.slots.now (saw_asked c.requires.1 c.look_for-seen.ensures)

pub returns-then-is_data : goal.returns-then-is_data
returns-then-is_data c =
    let a = c.args in
    let saw = saw_asked c.requires.1 c.look_for-seen.ensures in
    let own = owned a.slots.now saw c.found.ensures in
    rw (← c.look_for-seen.ensures.denied_is)
    (answered a.slots.now a.call a.datagram.now a.reply.now c.look_for-seen.result saw (c.pass_data.ensures a.slots.now own) (data_back a.slots.now c.look_for-seen.result))

pub answer_request-requires : goal.answer_request-requires
answer_request-requires c = ((c.requires.0, saw_asked c.requires.1 c.look_for-seen.ensures), sym c.is_data.ensures ∙ c.if-is_data.false)

pub returns : goal.returns
returns c = rw (← c.look_for-seen.ensures.denied_is) c.answer_request.ensures
