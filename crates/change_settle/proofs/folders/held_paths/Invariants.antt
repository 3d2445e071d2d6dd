use Rattle.std.proofs.Common.{◌≡◌, map, filter_map, take}
use Rattle.change_settle.specs.Tasks.{step_holding, step_seen}
use Rattle.change_settle.proofs.folders.held_paths.Given as goal

abbrev pub invariant-loop-step : goal.invariant-loop-step
invariant-loop-step l = l.paths.items ≡ filter_map step_holding (map step_seen (take l.step-index l.steps))
