-- Why there is no next number.
use Rattle.std.specs.Prelude.{◌≡◌, ◌⊎◌}
use Rattle.tree_fs.specs.declared.name.Kind.TheVariants.{File, Other}
use Rattle.tree_fs.specs.declared.tree.TreeError.{TreeError}
use Rattle.tree_fs.specs.declared.tree.TreeError.TheVariants as tree
use Rattle.tree_fs.specs.Spot.{spot_of}
use Rattle.tree_fs.specs.Disk.{Disk, kind_of}
use Rattle.backup_keep.specs.declared.error.KeepError.{KeepError}
use Rattle.backup_keep.specs.declared.error.KeepError.TheVariants.{Failed, AsideFull, Blocked, Memory}
use Rattle.backup_keep.specs.Places.{aside_folder}
use Rattle.backup_keep.specs.Asides.{HasAside}

-- the answer for a tree's fault
abbrev pub of_tree : TreeError → KeepError
of_tree tree.Failed = Failed
of_tree tree.Memory = Memory

-- a refusal that the disk gives cause for
abbrev pub IsKeepRefusal : Disk → KeepError → Type 0
IsKeepRefusal d Failed = Unit {0}
IsKeepRefusal d AsideFull = HasAside d 4294967295
IsKeepRefusal d (Blocked place) = (spot_of place ≡ aside_folder) × ((kind_of d aside_folder ≡ File) ⊎ (kind_of d aside_folder ≡ Other))
IsKeepRefusal d Memory = Unit {0}
