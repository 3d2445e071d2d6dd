-- Where a step can be done.
use Rattle.std.specs.Prelude.{⊤, true, false}
use Rattle.tree_fs.specs.declared.op.Op.{Op}
use Rattle.tree_fs.specs.declared.op.Op.TheVariants.{Link, Unlink, Rename, Create, Fill, MakeFolder, RemoveFolder, SyncFolder, SyncFile}
use Rattle.tree_fs.specs.Calls.{IsFolder, CanLink, CanUnlink, CanRename, CanPut, CanMakeFolder, CanRemoveFolder}
use Rattle.tree_fs.specs.Disk.{Disk, IsFile}
use Rattle.tree_fs.specs.Spot.{spot_of}

-- where a step can be done; one that isn't done asks nothing
abbrev pub CanDo : Disk → Op → Type 0
CanDo d (Link from to true) = CanLink d (spot_of from) (spot_of to)
CanDo d (Unlink at true) = CanUnlink d (spot_of at)
CanDo d (Rename from to true) = CanRename d (spot_of from) (spot_of to)
CanDo d (Create at true) = CanPut d (spot_of at)
CanDo d (Fill at bytes true) = IsFile d (spot_of at)
CanDo d (MakeFolder at true) = CanMakeFolder d (spot_of at)
CanDo d (RemoveFolder at true) = CanRemoveFolder d (spot_of at)
CanDo d (SyncFolder at true) = IsFolder d (spot_of at)
CanDo d (SyncFile at true) = IsFile d (spot_of at)
CanDo d (Link from to false) = ⊤
CanDo d (Unlink at false) = ⊤
CanDo d (Rename from to false) = ⊤
CanDo d (Create at false) = ⊤
CanDo d (Fill at bytes false) = ⊤
CanDo d (MakeFolder at false) = ⊤
CanDo d (RemoveFolder at false) = ⊤
CanDo d (SyncFolder at false) = ⊤
CanDo d (SyncFile at false) = ⊤
