use Rattle.std.proofs.Common.{◌≡◌, map, filter_map, take}
use Rattle.tree_fs.specs.Spot.{spot_of}
use Rattle.purge_run.specs.MadeFolders.{made_at}
use Rattle.purge_run.proofs.missing.made_places.Given as goal

abbrev pub invariant-loop-folder : goal.invariant-loop-folder
invariant-loop-folder l = map spot_of l.places.items ≡ filter_map (made_at l.fn.is_there) (take l.folder-index l.folders)
