use Rattle.std.proofs.Common.{map, take}
use Rattle.tree_fs.specs.Spot.{spot_of}
use Rattle.change_settle.specs.Above.{AreAbove}
use Rattle.change_settle.proofs.places.folders_above.Given as goal

abbrev pub invariant-loop-place : goal.invariant-loop-place
invariant-loop-place l = AreAbove (map spot_of (take l.place-index l.places)) (map spot_of l.found.items)
