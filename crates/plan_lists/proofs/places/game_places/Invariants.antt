use Rattle.std.proofs.Common.{◌≡◌, map, take}
use Rattle.tree_fs.specs.Spot.{spot_of}
use Rattle.tree_fs.specs.Places.{game_spot}
use Rattle.plan_lists.proofs.places.game_places.Given as goal

abbrev pub invariant-loop-path : goal.invariant-loop-path
invariant-loop-path l = map spot_of l.places.items ≡ map game_spot (take l.path-index l.paths)
