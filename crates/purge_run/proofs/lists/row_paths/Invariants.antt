use Rattle.std.proofs.Common.{◌≡◌, map, filter_map, take}
use Rattle.tree_fs.specs.Places.{game_spot}
use Rattle.purge_run.specs.Told.{case_seen, told_place}
use Rattle.purge_run.proofs.lists.row_paths.Given as goal

abbrev pub invariant-loop-case : goal.invariant-loop-case
invariant-loop-case l = map game_spot l.paths.items ≡ filter_map (told_place l.fn.which) (map case_seen (take l.case-index l.cases))
