use Rattle.std.proofs.Common.{◌≡◌, filter_map, take}
use Rattle.change_settle.specs.Above.{new_aside}
use Rattle.change_settle.proofs.made.new_asides.Given as goal

abbrev pub invariant-loop-folder : goal.invariant-loop-folder
invariant-loop-folder l = l.places.items ≡ filter_map (new_aside l.is_there l.aside) (take l.folder-index l.folders)
