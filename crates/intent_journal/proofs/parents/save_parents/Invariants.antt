use Rattle.std.proofs.Common.{◌≡◌, map, take}
use Rattle.tree_fs.specs.declared.place.Place.{Place}
use Rattle.tree_fs.specs.Spot.{spot_of, parent}
use Rattle.intent_journal.proofs.parents.save_parents.Given as goal

abbrev pub invariant-loop-save : goal.invariant-loop-save
invariant-loop-save l = map spot_of l.above.items ≡ map (λ (s : Place × Place). parent (spot_of s.1)) (take l.save-index l.saves)
