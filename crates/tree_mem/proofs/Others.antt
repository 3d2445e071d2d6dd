-- A change by others leaves a valid disk.
use Rattle.std.proofs.Common.{true}
use Rattle.tree_fs.specs.Disk.{Disk, IsValid}
use Rattle.tree_fs.specs.Spot.{spot_of}
use Rattle.tree_fs.proofs.Folders.{valid-folder_removed}
use Rattle.tree_mem.specs.declared.outside_step.OutsideStep.{OutsideStep}
use Rattle.tree_mem.specs.declared.outside_step.OutsideStep.TheVariants.{PutFile, EditFile, Remove, LinkFile, MakeFolder, RemoveFolder}
use Rattle.tree_mem.specs.Changed.{with_file, with_link, with_folder, without_file, without_folder}
use Rattle.tree_mem.specs.Outside.{CanChange, changed_by}
use Rattle.tree_mem.proofs.Valid.{valid_file, valid_link, valid_folder, valid_removed, valid_edited, valid_settled}

pub valid_changed : (d : Disk) (step : OutsideStep) → IsValid d → CanChange d step → IsValid (changed_by d step)
valid_changed d (PutFile at bytes) valid can = valid_settled (with_file d (spot_of at) bytes) (spot_of at) (valid_file d (spot_of at) bytes valid can)
valid_changed d (EditFile at bytes) valid can = valid_edited d (d.now (spot_of at)) bytes valid
valid_changed d (Remove at) valid can = valid_settled (without_file d (spot_of at)) (spot_of at) (valid_removed d (spot_of at) valid)
valid_changed d (LinkFile from to) valid can =
    valid_settled (with_link d (spot_of from) (spot_of to)) (spot_of to) (valid_link d (spot_of from) (spot_of to) valid can.source (record { absent = can.absent; no_folder = can.no_folder; in_folder = can.in_folder }))
valid_changed d (MakeFolder at) valid can = valid_settled (with_folder d (spot_of at)) (spot_of at) (valid_folder d (spot_of at) valid can)
valid_changed d (RemoveFolder at) valid can = valid_settled (without_folder d (spot_of at)) (spot_of at) (valid-folder_removed d at true valid can)
