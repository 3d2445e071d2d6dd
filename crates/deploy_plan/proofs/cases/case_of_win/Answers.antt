use Rattle.std.proofs.Common.{sym, ◌∙◌, subst, IfErr}
use Rattle.list_laws.proofs.Truths.{if_err-from_same}
use Rattle.tree_fs.specs.Spot.{Spot, IsBelow}
use Rattle.tree_fs.specs.Places.{game_spot}
use Rattle.tree_fs.specs.Story.{disk_of}
use Rattle.plan_model.specs.Rows.{IsFolderOrAbsent}
use Rattle.deploy_plan.specs.Walk.{win_alone}
use Rattle.deploy_plan.specs.Steps.{Refused, IsStepObstacle}
use Rattle.deploy_plan.specs.Told.{win_seen}
use Rattle.deploy_plan.proofs.Parented.{open_above, blocked_win}
use Rattle.deploy_plan.proofs.Cased.{missing_free, missing_told}
use Rattle.deploy_plan.proofs.cases.case_of_win.Goals as goal

pub returns-in_err-has_parents-clause-refused : goal.returns-in_err-has_parents-clause-refused
returns-in_err-has_parents-clause-refused g c told =
    let a = disk_of (g.T.Tree.story c.args.tree.now) in
    let w = win_seen c.args.win in
    let e = c.in_err-has_parents.field-0.0 in
    if_err-from_same (Refused (IsStepObstacle a (win_alone w))) c.from_residual.result e c.from_residual.ensures.1
    (blocked_win a w e (c.in_err-has_parents.ensures.refused told))

pub case_inside-requires-clause-parents : goal.case_inside-requires-clause-parents
case_inside-requires-clause-parents g c told =
    let x = game_spot c.args.win.path.now in
    subst (λ s. (p : Spot) → IsBelow p x → IsFolderOrAbsent (disk_of s) p) (sym (c.in_ok-has_parents.ensures.same told))
    (open_above (disk_of (g.T.Tree.story c.args.tree.now)) x (c.in_ok-has_parents.ensures.looks told).is_open)

pub returns-then-branch-clause-refused : goal.returns-then-branch-clause-refused
returns-then-branch-clause-refused g c told =
    subst (λ s. IfErr c.case_inside.result (Refused (IsStepObstacle (disk_of s) (win_alone (win_seen c.args.win))))) (c.in_ok-has_parents.ensures.same told) (c.case_inside.ensures.refused told)

pub returns-else-branch-clause-answer : goal.returns-else-branch-clause-answer
returns-else-branch-clause-answer g c told =
    let a = disk_of (g.T.Tree.story c.args.tree.now) in
    missing_told a (win_seen c.args.win) (g.met.T.Tree.valid c.args.tree.now told) (sym (c.in_ok-has_parents.ensures.answer told) ∙ c.if-branch.false)

pub returns-else-branch-clause-free : goal.returns-else-branch-clause-free
returns-else-branch-clause-free g c told =
    let a = disk_of (g.T.Tree.story c.args.tree.now) in
    missing_free a (win_seen c.args.win) (g.met.T.Tree.valid c.args.tree.now told) (sym (c.in_ok-has_parents.ensures.answer told) ∙ c.if-branch.false)
    (open_above a (game_spot c.args.win.path.now) (c.in_ok-has_parents.ensures.looks told).is_open)
