use mathlib.Core.Path.{sym, ◌∙◌}
use native.Mathlib.Omega.{arith}
use Rattle.std.proofs.Common.{rules}
use Rattle.slot.specs.Slot.{fresh_permission, permits, free_permission, permission_entry}
use Rattle.slot.proofs.Laws.{entry_within, permit-none, permit-some}
use Rattle.slot.proofs.permissions.permit.Goals as goal

pub returns-in_err-entry : goal.returns-in_err-entry
returns-in_err-entry c = c.from_residual.ensures ∙ sym (permit-none c.args.time c.args.address c.args.slot (sym c.permission_entry.ensures ∙ c.in_err-entry.was))

pub offset_bounds-permitted-entry : goal.offset_bounds-permitted-entry
unfolding permission_entry
offset_bounds-permitted-entry c =
    let within = entry_within (permits c.args.time c.args.address) (free_permission c.args.time) c.args.slot.permissions fresh_permission c.in_ok-entry.entry (sym c.permission_entry.ensures ∙ c.in_ok-entry.was) in
    search rules

pub bounds-permitted-entry : goal.bounds-permitted-entry
unfolding permission_entry
bounds-permitted-entry c =
    let within = entry_within (permits c.args.time c.args.address) (free_permission c.args.time) c.args.slot.permissions fresh_permission c.in_ok-entry.entry (sym c.permission_entry.ensures ∙ c.in_ok-entry.was) in
    omega arith

pub returns : goal.returns
returns c = sym (permit-some c.args.time c.args.address c.args.slot (sym c.permission_entry.ensures ∙ c.in_ok-entry.was))
