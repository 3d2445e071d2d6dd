use Rattle.std.proofs.Common.{◌≡◌, map, filter_map, take}
use Rattle.change_settle.specs.Lists.{keyed}
use Rattle.change_settle.specs.Tasks.{step_set, step_seen}
use Rattle.change_settle.proofs.lists.sets_by_row.Given as goal

abbrev pub invariant-loop-step : goal.invariant-loop-step
invariant-loop-step l = map keyed l.sets.items ≡ filter_map (step_set l.number) (map step_seen (take l.step-index l.steps))
