-- Changes by others.
use Rattle.tree_fs.specs.Calls.{CanLink, CanUnlink, CanPut, CanMakeFolder, CanRemoveFolder}
use Rattle.tree_fs.specs.Disk.{Disk, IsFile}
use Rattle.tree_fs.specs.Spot.{spot_of}
use Rattle.tree_mem.specs.declared.outside_step.OutsideStep.{OutsideStep}
use Rattle.tree_mem.specs.declared.outside_step.OutsideStep.TheVariants.{PutFile, EditFile, Remove, LinkFile, MakeFolder, RemoveFolder}
use Rattle.tree_mem.specs.Changed.{with_file, with_link, with_folder, without_file, without_folder, edited, settled_at}

-- where a change by others can be made
abbrev pub CanChange : Disk → OutsideStep → Type 0
CanChange d (PutFile at bytes) = CanPut d (spot_of at)
CanChange d (EditFile at bytes) = IsFile d (spot_of at)
CanChange d (Remove at) = CanUnlink d (spot_of at)
CanChange d (LinkFile from to) = CanLink d (spot_of from) (spot_of to)
CanChange d (MakeFolder at) = CanMakeFolder d (spot_of at)
CanChange d (RemoveFolder at) = CanRemoveFolder d (spot_of at)

-- the disk after it: what changed is settled and firm
abbrev pub changed_by : Disk → OutsideStep → Disk
changed_by d (PutFile at bytes) = settled_at (with_file d (spot_of at) bytes) (spot_of at)
changed_by d (EditFile at bytes) = edited d (d.now (spot_of at)) bytes
changed_by d (Remove at) = settled_at (without_file d (spot_of at)) (spot_of at)
changed_by d (LinkFile from to) = settled_at (with_link d (spot_of from) (spot_of to)) (spot_of to)
changed_by d (MakeFolder at) = settled_at (with_folder d (spot_of at)) (spot_of at)
changed_by d (RemoveFolder at) = settled_at (without_folder d (spot_of at)) (spot_of at)
