use Rattle.std.proofs.Common.{◌≡◌, ◌≤◌, sym, ap, ◌∙◌, subst, map, arith}
use Rattle.std.specs.List.{AllByRecursion}
use Rattle.list_laws.proofs.Alls.{all_more}
use Rattle.list_laws.proofs.Truths.{if_err-from_same}
use Rattle.tree_fs.specs.Story.{disk_of}
use Rattle.deploy_plan.specs.Steps.{Refused, IsStepObstacle, IsFreeStep, IsFirstInTheWay}
use Rattle.deploy_plan.specs.Missing.{LooksFor}
use Rattle.deploy_plan.specs.Told.{IsGoodCase, told_win_of, step_win, told, step_seen, case_seen}
use Rattle.deploy_plan.proofs.Walked.{seen_step, noted_next, free_next, told_next, first_in_the_way, refused_as}
use Rattle.deploy_plan.proofs.cases.cases.Goals as goal

pub returns-in_err-case-clause-refused : goal.returns-in_err-case-clause-refused
returns-in_err-case-clause-refused g c = λ yes.
    let start = g.T.Tree.story c.args.tree.now in
    let a = disk_of start in
    let steps = c.args.steps.now in
    let i = c.loop-step.step-index in
    let step = c.step-item.result in
    let e = c.in_err-case.field-0.0 in
    let same : g.T.Tree.story c.loop-step.tree ≡ start = c.loop-step.invariant.same yes in
    let here : Refused (IsStepObstacle a (step_seen step)) e = subst (λ s. Refused (IsStepObstacle (disk_of s) (step_seen step)) e) same (c.in_err-case.ensures.refused yes) in
    if_err-from_same (Refused (IsFirstInTheWay a (map step_seen steps))) c.from_residual-in_err-case.result e c.from_residual-in_err-case.ensures.1
    (refused_as (IsStepObstacle a (step_seen step)) (IsFirstInTheWay a (map step_seen steps)) e
    (λ o there. first_in_the_way step_seen steps i step c.loop-step-test.true c.step-item.is a o (c.loop-step.invariant.free yes) there) here)

pub loop-step-preserved : goal.loop-step-preserved
loop-step-preserved g c =
    let start = g.T.Tree.story c.args.tree.now in
    let a = disk_of start in
    let steps = c.args.steps.now in
    let i = c.loop-step.step-index in
    let step = c.step-item.result in
    let before : g.T.Tree.faults c.args.tree.now ≤ g.T.Tree.faults c.loop-step.tree = c.loop-step.invariant.later in
    let after : g.T.Tree.faults c.loop-step.tree ≤ g.T.Tree.faults c.case_of.new.tree = c.case_of.ensures.cause.later in
    let looks : g.T.Tree.tells → LooksFor a (step_seen step) c.loop-step.parents c.case_of.new.parents = λ yes. subst (λ s. LooksFor (disk_of s) (step_seen step) c.loop-step.parents c.case_of.new.parents) (c.loop-step.invariant.same yes) (c.in_ok-case.ensures.looks yes) in
    record {
      same = λ yes. c.in_ok-case.ensures.same yes ∙ c.loop-step.invariant.same yes;
      later = omega arith;
      good = subst (AllByRecursion (λ c. IsGoodCase (case_seen c))) (sym c.in_ok-push.ensures.items) (all_more (λ c. IsGoodCase (case_seen c)) c.loop-step.cases.items c.in_ok-case.case c.loop-step.invariant.good c.in_ok-case.ensures.good.0);
      wins = told_next step_seen steps i step c.loop-step-test.true c.step-item.is step_win (λ c. told_win_of (case_seen c)) c.loop-step.cases.items c.push.new.self.items c.in_ok-case.case c.loop-step.invariant.wins c.in_ok-case.ensures.good.1 c.in_ok-push.ensures.items;
      missing = c.in_ok-case.ensures.missing c.loop-step.invariant.missing;
      seen = λ yes. seen_step a (step_seen step) c.loop-step.parents c.case_of.new.parents (c.loop-step.invariant.seen yes) (looks yes);
      noted = λ yes. noted_next step_seen steps i step c.loop-step-test.true c.step-item.is a c.loop-step.parents c.case_of.new.parents (c.loop-step.invariant.noted yes) (looks yes);
      free = λ yes. free_next step_seen steps i step c.loop-step-test.true c.step-item.is (IsFreeStep a) (c.loop-step.invariant.free yes) (subst (λ s. IsFreeStep (disk_of s) (step_seen step)) (c.loop-step.invariant.same yes) (c.in_ok-case.ensures.free yes));
      so_far = λ yes.
          told_next step_seen steps i step c.loop-step-test.true c.step-item.is (told a) case_seen c.loop-step.cases.items c.push.new.self.items c.in_ok-case.case (c.loop-step.invariant.so_far yes)
          (c.in_ok-case.ensures.answer yes ∙ ap (λ s. told (disk_of s) (step_seen step)) (c.loop-step.invariant.same yes)) c.in_ok-push.ensures.items;
    }
