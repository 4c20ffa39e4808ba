use mathlib.Core.Path.{◌≡◌}
use borrow.Author.Rules.{rules, part_to_end}
use Rattle.std.specs.Prelude.{Result, Err, ℕ}
use Rattle.refusal.specs.declared.Refusal.{Refusal}
use Rattle.denied.proofs.Laws.{all_left, none_left, line_taken, line_refused, gives_refused, gives_taken}
use Rattle.denied.proofs.read_denied.Goals as goal

pub loop-start-init : goal.loop-start-init
loop-start-init c = rw c.empty_tree-tree.ensures (all_left _)

pub returns-in_err-tree-clause-gives : goal.returns-in_err-tree-clause-gives
returns-in_err-tree-clause-gives c =
    let same : ◌≡◌ {A = Result ℕ Refusal} c.from_residual.result (Err c.in_err-tree.field-0.0) = search rules in
    rw same (gives_refused _ (line_refused c.loop-start.invariant c.loop-start-test.true (rw (c.find.ensures.0, part_to_end _ c.loop-start.start)) c.with_line.ensures c.in_err-tree.was))

pub loop-start-preserved : goal.loop-start-preserved
loop-start-preserved c = line_taken c.loop-start.invariant c.loop-start-test.true (rw (c.find.ensures.0, part_to_end _ c.loop-start.start)) c.with_line.ensures c.in_ok-tree.was

pub returns-clause-gives : goal.returns-clause-gives
returns-clause-gives c = gives_taken _ _ (none_left c.loop-start.invariant c.loop-start-test.false)
