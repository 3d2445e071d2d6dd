use Rattle.std.proofs.Common.{◌≡◌, map, take}
use Rattle.tree_fs.specs.declared.place.Place.{Place}
use Rattle.change_settle.proofs.made.aside_places.Given as goal

abbrev pub invariant-loop-save : goal.invariant-loop-save
invariant-loop-save l = l.places.items ≡ map (λ (v : Place × Place). v.1) (take l.save-index l.saves)
