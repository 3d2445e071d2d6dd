use Rattle.std.proofs.Common.{map, take}
use Rattle.change_settle.specs.Steps.{SavesSome, step_task}
use Rattle.change_settle.proofs.aside.saves_some.Given as goal

abbrev pub invariant-loop-step : goal.invariant-loop-step
invariant-loop-step l = SavesSome (map step_task (take l.step-index l.steps)) → ⊥
