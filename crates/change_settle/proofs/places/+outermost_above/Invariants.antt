use Rattle.std.proofs.Common.{length}
use Rattle.tree_fs.specs.Spot.{spot_of}
use Rattle.change_settle.proofs.places.+outermost_above.Given as goal

abbrev pub decreases-outermost_above : goal.decreases-outermost_above
decreases-outermost_above l = length ((spot_of l.place.now).names)
