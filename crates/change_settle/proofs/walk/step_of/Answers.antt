use Rattle.std.proofs.Common.{map}
use Rattle.list_laws.proofs.Truths.{if_err-from_same}
use Rattle.tree_fs.specs.Spot.{spot_of}
use Rattle.tree_fs.specs.Story.{disk_of}
use Rattle.change_settle.specs.Steps.{IsInTaskWay, Refuses}
use Rattle.change_settle.specs.Tasks.{task_seen}
use Rattle.change_settle.proofs.Walked.{opens, refuses_parent}
use Rattle.change_settle.proofs.walk.step_of.Goals as goal

pub returns-in_err-check_parents-clause-refused : goal.returns-in_err-check_parents-clause-refused
returns-in_err-check_parents-clause-refused g c tells =
    let a = disk_of (g.T.Tree.story c.args.tree.now) in
    let t = task_seen c.args.task in
    let e = c.in_err-check_parents.field-0.0 in
    if_err-from_same (Refuses (IsInTaskWay a t)) c.from_residual.result e c.from_residual.ensures.1
    (refuses_parent a (g.met.T.Tree.valid c.args.tree.now tells) (map spot_of c.args.blocked.now) t e (c.requires.told tells) c.in_err-check_parents.ensures.refused)

pub returns-clause-open : goal.returns-clause-open
returns-clause-open g c tells =
    let a = disk_of (g.T.Tree.story c.args.tree.now) in
    record {
      parents = opens a (g.met.T.Tree.valid c.args.tree.now tells) (map spot_of c.args.blocked.now) (task_seen c.args.task) (c.requires.told tells) c.in_ok-check_parents.ensures.open;
      behind = c.in_ok-has_original.ensures.open tells;
    }
