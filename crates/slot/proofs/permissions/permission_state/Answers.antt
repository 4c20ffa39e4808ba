use mathlib.Core.Path.{sym}
use Rattle.slot.proofs.Laws.{has_is, state-live, state-lapsed, state_never}
use Rattle.slot.proofs.permissions.permission_state.Goals as goal

pub returns-then-is_some : goal.returns-then-is_some
returns-then-is_some c = sym (state-live _ _ _ (rw (c.is_some.ensures, has_is, c.find_permission.ensures) at c.if-is_some.true))

pub returns-then-is_some-2 : goal.returns-then-is_some-2
returns-then-is_some-2 c =
    sym
    (state-lapsed _ _ _
    (rw (c.is_some.ensures, has_is, c.find_permission.ensures) at c.if-is_some.false)
    (rw (c.is_some-2.ensures, has_is, c.find_permission-2.ensures) at c.if-is_some-2.true))

pub returns : goal.returns
returns c =
    sym
    (state_never _ _ _
    (rw (c.is_some.ensures, has_is, c.find_permission.ensures) at c.if-is_some.false)
    (rw (c.is_some-2.ensures, has_is, c.find_permission-2.ensures) at c.if-is_some-2.false))
