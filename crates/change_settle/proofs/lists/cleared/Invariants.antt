use Rattle.std.proofs.Common.{◌≡◌, map, filter_map, take}
use Rattle.tree_fs.specs.Spot.{spot_of}
use Rattle.change_settle.specs.Tasks.{step_clear, step_seen}
use Rattle.change_settle.proofs.lists.cleared.Given as goal

abbrev pub invariant-loop-step : goal.invariant-loop-step
invariant-loop-step l = map spot_of l.places.items ≡ filter_map (step_clear l.number) (map step_seen (take l.step-index l.steps))
