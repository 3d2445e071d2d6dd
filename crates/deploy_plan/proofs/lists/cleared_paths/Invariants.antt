use Rattle.std.proofs.Common.{◌≡◌, map, filter_map, take}
use Rattle.tree_fs.specs.Places.{game_spot}
use Rattle.deploy_plan.specs.Told.{case_seen, told_clear}
use Rattle.deploy_plan.proofs.lists.cleared_paths.Given as goal

abbrev pub invariant-loop-case : goal.invariant-loop-case
invariant-loop-case l = map game_spot l.paths.items ≡ filter_map told_clear (map case_seen (take l.case-index l.cases))
