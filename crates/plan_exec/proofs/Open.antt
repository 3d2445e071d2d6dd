-- Places with a file or nothing.
use Rattle.std.proofs.Common.{◌≡◌, refl, sym, inl}
use Rattle.std.specs.declared.option.Option.TheVariants.{None}
use Rattle.tree_fs.specs.declared.name.Kind.TheVariants.{File}
use Rattle.tree_fs.specs.Spot.{Spot}
use Rattle.tree_fs.specs.Disk.{Disk, IsFile, IsValid, kind_of}
use Rattle.tree_fs.proofs.Disks.{file-no_folder}
use Rattle.tree_fs.proofs.KindOf.{file-kind}
use Rattle.desk_model.specs.Standing.{IsSettledFile, IsOpen}
use Rattle.plan_exec.specs.Causes.{place_by}
use Rattle.plan_exec.proofs.Obstacles.{open_value}

pub open_place : (a : Disk) (x : Spot) → IsOpen a x → place_by (kind_of a x) x ≡ None
open_place a x is = open_value a x (a.now x) is.no_folder refl (λ e. is.not_odd (inl (sym e)))

pub settled_file-kind : (a : Disk) (x : Spot) → IsValid a → IsSettledFile a x → kind_of a x ≡ File
settled_file-kind a x valid f =
    let there : IsFile a x = (f.number, f.only (a.now x) (inl refl)) in
    file-kind a x (file-no_folder a x valid there) there
