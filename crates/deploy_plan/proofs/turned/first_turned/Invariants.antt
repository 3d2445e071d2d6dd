use Rattle.std.proofs.Common.{map, take}
use Rattle.std.specs.List.{AllByRecursion}
use Rattle.deploy_plan.specs.Steps.{IsNotTurned}
use Rattle.deploy_plan.specs.Told.{step_seen}
use Rattle.deploy_plan.proofs.turned.first_turned.Given as goal

abbrev pub invariant-loop-step : goal.invariant-loop-step
invariant-loop-step l = AllByRecursion (IsNotTurned l.rows) (map step_seen (take l.step-index l.steps))
