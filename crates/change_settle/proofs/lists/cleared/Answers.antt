use Rattle.list_laws.proofs.Alls.{all_this}
use Rattle.tree_fs.specs.Spot.{spot_of}
use Rattle.manifest_json.specs.Sound.{IsRow}
use Rattle.plan_lists.proofs.Gathered.{gathered_more, gathered_all}
use Rattle.change_settle.specs.Tasks.{step_clear, step_row, step_seen}
use Rattle.change_settle.proofs.lists.cleared.Goals as goal

pub clear_of-requires : goal.clear_of-requires
clear_of-requires c = all_this (λ s. IsRow (step_row s)) c.args.steps.now c.loop-step.step-index c.step-item.result c.loop-step-test.true c.step-item.is c.requires

pub loop-step-preserved : goal.loop-step-preserved
loop-step-preserved c =
    gathered_more (step_clear c.args.number) step_seen spot_of c.args.steps.now c.loop-step.step-index c.step-item.result _ _ _ c.loop-step-test.true c.step-item.is c.loop-step.invariant c.in_ok-place.ensures c.in_ok-push_some.ensures

pub returns : goal.returns
returns c = gathered_all (step_clear c.args.number) step_seen spot_of c.args.steps.now c.loop-step.step-index _ c.loop-step-test.false c.loop-step.invariant
