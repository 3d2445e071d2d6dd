use Rattle.std.proofs.Common.{◌≡◌, map, filter_map, take}
use Rattle.tree_fs.specs.Places.{game_spot}
use Rattle.change_settle.specs.Tasks.{step_emptied, step_seen}
use Rattle.change_settle.proofs.folders.emptied_paths.Given as goal

abbrev pub invariant-loop-step : goal.invariant-loop-step
invariant-loop-step l = map game_spot l.paths.items ≡ filter_map step_emptied (map step_seen (take l.step-index l.steps))
