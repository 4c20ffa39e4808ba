use mathlib.Core.Path.{sym, ◌∙◌}
use native.Mathlib.Omega.{arith}
use Rattle.std.proofs.Common.{rules}
use Rattle.slot.specs.Slot.{fresh_channel, numbered, free_channel, channel_entry}
use Rattle.slot.proofs.Laws.{entry_within, bind-none, bind-some}
use Rattle.slot.proofs.channels.bind.Goals as goal

pub returns-in_err-entry : goal.returns-in_err-entry
returns-in_err-entry c = c.from_residual.ensures ∙ sym (bind-none c.args.time c.args.number c.args.peer c.args.slot (sym c.channel_entry.ensures ∙ c.in_err-entry.was))

pub offset_bounds-bound-entry : goal.offset_bounds-bound-entry
unfolding channel_entry
offset_bounds-bound-entry c =
    let within = entry_within (numbered c.args.time c.args.number) (free_channel c.args.time) c.args.slot.channels fresh_channel c.in_ok-entry.entry (sym c.channel_entry.ensures ∙ c.in_ok-entry.was) in
    search rules

pub bounds-bound-entry : goal.bounds-bound-entry
unfolding channel_entry
bounds-bound-entry c =
    let within = entry_within (numbered c.args.time c.args.number) (free_channel c.args.time) c.args.slot.channels fresh_channel c.in_ok-entry.entry (sym c.channel_entry.ensures ∙ c.in_ok-entry.was) in
    omega arith

pub returns : goal.returns
returns c = sym (bind-some c.args.time c.args.number c.args.peer c.args.slot (sym c.channel_entry.ensures ∙ c.in_ok-entry.was))
