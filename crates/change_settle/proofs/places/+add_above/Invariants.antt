use Rattle.std.proofs.Common.{length}
use Rattle.tree_fs.specs.Spot.{spot_of}
use Rattle.change_settle.proofs.places.+add_above.Given as goal

abbrev pub decreases-add_above : goal.decreases-add_above
decreases-add_above l = length ((spot_of l.place.now).names)
