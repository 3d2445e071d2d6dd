use Rattle.std.proofs.Common.{◌≤◌, sym, ap, ◌∙◌, subst, arith}
use Rattle.tree_fs.specs.Story.{disk_of}
use Rattle.change_settle.specs.Rows.{AreLeft}
use Rattle.change_settle.specs.Steps.{step_task}
use Rattle.change_settle.specs.Tasks.{step_row, task_next}
use Rattle.change_settle.proofs.NextRows.{left_more}
use Rattle.change_settle.proofs.Picked.{picked_more}
use Rattle.change_settle.proofs.Walked.{seen_next}
use Rattle.change_settle.proofs.rows.next_rows.Goals as goal

pub loop-step-preserved : goal.loop-step-preserved
loop-step-preserved g c =
    let start = g.T.Tree.story c.args.tree.now in
    let a = disk_of start in
    let steps = c.args.steps.now in
    let i = c.loop-step.step-index in
    let step = c.step-item.result in
    let old = c.loop-step.rows.items in
    let new = c.push_some.new.items.items in
    let row = c.in_ok-row.row in
    let before : g.T.Tree.faults c.args.tree.now ≤ g.T.Tree.faults c.loop-step.tree = c.loop-step.invariant.later in
    let after : g.T.Tree.faults c.loop-step.tree ≤ g.T.Tree.faults c.next_row.new.tree = c.next_row.ensures.cause.later in
    record {
      same = λ yes. c.in_ok-row.ensures.same yes ∙ c.loop-step.invariant.same yes;
      later = omega arith;
      left =
          subst (λ l. AreLeft l new) (sym (seen_next step_row steps i step c.loop-step-test.true c.step-item.is))
          (subst (AreLeft _) (sym c.in_ok-push_some.ensures) (left_more _ old (step_row step) row c.loop-step.invariant.left c.in_ok-row.ensures.left));
      so_far = λ yes.
          picked_more (task_next a) step_task steps i step old new row c.loop-step-test.true c.step-item.is (c.loop-step.invariant.so_far yes)
          (c.in_ok-row.ensures.answer yes ∙ ap (λ s. task_next (disk_of s) (step_task step)) (c.loop-step.invariant.same yes)) c.in_ok-push_some.ensures;
    }
