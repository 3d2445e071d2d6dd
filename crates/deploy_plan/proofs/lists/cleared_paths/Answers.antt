use Rattle.tree_fs.specs.Places.{game_spot}
use Rattle.deploy_plan.specs.Told.{case_seen, told_clear}
use Rattle.plan_lists.proofs.Gathered.{gathered_more, gathered_all}
use Rattle.deploy_plan.proofs.lists.cleared_paths.Goals as goal

pub loop-case-preserved : goal.loop-case-preserved
loop-case-preserved c =
    gathered_more told_clear case_seen game_spot c.args.cases.now c.loop-case.case-index c.case-item.result _ _ _ c.loop-case-test.true c.case-item.is c.loop-case.invariant c.in_ok-path.ensures c.in_ok-push_some.ensures

pub returns : goal.returns
returns c = gathered_all told_clear case_seen game_spot c.args.cases.now c.loop-case.case-index _ c.loop-case-test.false c.loop-case.invariant
