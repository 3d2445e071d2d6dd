use Rattle.std.proofs.Common.{◌≡◌, ◌++◌, map, take}
use Rattle.std.specs.List.{flat_map}
use Rattle.tree_fs.specs.Spot.{spot_of}
use Rattle.tour_counts.specs.Files.{folder_in}
use Rattle.tour_counts.proofs.files.push_folders.Given as goal

abbrev pub invariant-loop-entry : goal.invariant-loop-entry
invariant-loop-entry l = map spot_of l.folders.items ≡ map spot_of l.fn.folders.items ++ flat_map (folder_in (spot_of l.folder)) (take l.entry-index l.entries)
