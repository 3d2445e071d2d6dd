use Rattle.std.proofs.Common.{◌≡◌, ◌≤◌, sym, ap, ◌∙◌, subst, map, arith}
use Rattle.list_laws.proofs.Alls.{all_this, all_unmap}
use Rattle.list_laws.proofs.Truths.{if_err-from_same}
use Rattle.tree_fs.specs.Spot.{spot_of}
use Rattle.tree_fs.specs.Story.{disk_of}
use Rattle.change_settle.specs.Steps.{IsFirstOf, IsInTaskWay, IsOpen, Refuses, TellsFor, step_task}
use Rattle.change_settle.specs.Tasks.{step_seen, task_seen, told}
use Rattle.change_settle.proofs.Walked.{all_next_seen, mapped_next, same_next, first_of, refuses_as}
use Rattle.change_settle.proofs.walk.steps.Goals as goal

pub returns-in_err-step-clause-refused : goal.returns-in_err-step-clause-refused
returns-in_err-step-clause-refused g c = λ yes.
    let start = g.T.Tree.story c.args.tree.now in
    let a = disk_of start in
    let tasks = c.args.tasks.now in
    let i = c.loop-task.task-index in
    let task = c.task-item.result in
    let e = c.in_err-step.field-0.0 in
    let same : g.T.Tree.story c.loop-task.tree ≡ start = c.loop-task.invariant.same yes in
    let here : Refuses (IsInTaskWay a (task_seen task)) e = subst (λ s. Refuses (IsInTaskWay (disk_of s) (task_seen task)) e) same (c.in_err-step.ensures.refused yes) in
    if_err-from_same (Refuses (IsFirstOf a (map task_seen tasks))) c.from_residual-in_err-step.result e c.from_residual-in_err-step.ensures.1
    (refuses_as (IsInTaskWay a (task_seen task)) (IsFirstOf a (map task_seen tasks)) e
    (λ x there. first_of task_seen tasks i task c.loop-task-test.true c.task-item.is a x (c.loop-task.invariant.open_so_far yes) there) here)

pub loop-task-preserved : goal.loop-task-preserved
loop-task-preserved g c =
    let start = g.T.Tree.story c.args.tree.now in
    let a = disk_of start in
    let tasks = c.args.tasks.now in
    let i = c.loop-task.task-index in
    let task = c.task-item.result in
    let before : g.T.Tree.faults c.args.tree.now ≤ g.T.Tree.faults c.loop-task.tree = c.loop-task.invariant.later in
    let after : g.T.Tree.faults c.loop-task.tree ≤ g.T.Tree.faults c.step_of.new.tree = c.step_of.ensures.cause.later in
    record {
      same = λ yes. c.in_ok-step.ensures.same yes ∙ c.loop-task.invariant.same yes;
      later = omega arith;
      tasks = same_next task_seen tasks i task c.loop-task-test.true c.task-item.is step_task c.loop-task.steps.items c.push.new.self.items c.in_ok-step.step c.loop-task.invariant.tasks c.in_ok-step.ensures.task c.in_ok-push.ensures.items;
      open_so_far = λ yes. all_next_seen task_seen tasks i task c.loop-task-test.true c.task-item.is (IsOpen a) (c.loop-task.invariant.open_so_far yes) (subst (λ s. IsOpen (disk_of s) (task_seen task)) (c.loop-task.invariant.same yes) (c.in_ok-step.ensures.open yes));
      so_far = λ yes.
          mapped_next task_seen tasks i task c.loop-task-test.true c.task-item.is (told a) step_seen c.loop-task.steps.items c.push.new.self.items c.in_ok-step.step (c.loop-task.invariant.so_far yes)
          (c.in_ok-step.ensures.answer yes ∙ ap (λ s. told (disk_of s) (task_seen task)) (c.loop-task.invariant.same yes)) c.in_ok-push.ensures.items;
    }

pub step_of-requires-clause-told : goal.step_of-requires-clause-told
step_of-requires-clause-told g c tells =
    let a = disk_of (g.T.Tree.story c.args.tree.now) in
    let blocked = map spot_of c.args.blocked.now in
    let tasks = c.args.tasks.now in
    let task = c.task-item.result in
    subst (λ s. TellsFor (disk_of s) blocked (task_seen task)) (sym (c.loop-task.invariant.same tells))
    (all_this (λ t. TellsFor a blocked (task_seen t)) tasks c.loop-task.task-index task c.loop-task-test.true c.task-item.is (all_unmap (TellsFor a blocked) task_seen tasks (c.requires.told tells)))
