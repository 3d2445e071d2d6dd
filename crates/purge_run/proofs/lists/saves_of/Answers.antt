use Rattle.plan_model.specs.Lists.{ends_of}
use Rattle.purge_run.specs.Told.{case_seen, told_save}
use Rattle.plan_lists.proofs.Gathered.{gathered_more, gathered_all}
use Rattle.purge_run.proofs.lists.saves_of.Goals as goal

pub loop-case-preserved : goal.loop-case-preserved
loop-case-preserved c =
    gathered_more (told_save c.args.number) case_seen ends_of c.args.cases.now c.loop-case.case-index c.case-item.result _ _ _ c.loop-case-test.true c.case-item.is c.loop-case.invariant c.in_ok-save.ensures c.in_ok-push_some.ensures

pub returns : goal.returns
returns c = gathered_all (told_save c.args.number) case_seen ends_of c.args.cases.now c.loop-case.case-index _ c.loop-case-test.false c.loop-case.invariant
