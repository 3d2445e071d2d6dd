use Rattle.change_settle.specs.Tasks.{step_holding, step_seen}
use Rattle.change_settle.proofs.Picked.{picked_more, picked_all}
use Rattle.change_settle.proofs.folders.held_paths.Goals as goal

pub loop-step-preserved : goal.loop-step-preserved
loop-step-preserved c =
    picked_more step_holding step_seen c.args.steps.now c.loop-step.step-index c.step-item.result _ _ _ c.loop-step-test.true c.step-item.is c.loop-step.invariant c.in_ok-path.ensures c.in_ok-push_some.ensures

pub returns : goal.returns
returns c = picked_all step_holding step_seen c.args.steps.now c.loop-step.step-index c.loop-step.paths.items c.loop-step-test.false c.loop-step.invariant
