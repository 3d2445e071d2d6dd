use Rattle.std.proofs.Common.{◌≡◌, map, take}
use Rattle.tree_fs.specs.declared.place.Place.{Place}
use Rattle.tree_fs.specs.Spot.{spot_of, parent}
use Rattle.intent_journal.proofs.parents.parents_of.Given as goal

abbrev pub invariant-loop-place : goal.invariant-loop-place
invariant-loop-place l = map spot_of l.above.items ≡ map (λ (p : Place). parent (spot_of p)) (take l.place-index l.places)
