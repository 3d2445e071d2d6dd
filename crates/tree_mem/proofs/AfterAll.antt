-- Each step that can be done leaves a valid disk.
use Rattle.std.proofs.Common.{true, false}
use Rattle.tree_fs.specs.declared.op.Op.{Op}
use Rattle.tree_fs.specs.declared.op.Op.TheVariants.{Link, Unlink, Rename, Create, Fill, MakeFolder, RemoveFolder, SyncFolder, SyncFile}
use Rattle.tree_fs.specs.Disk.{Disk, IsValid, after}
use Rattle.tree_fs.proofs.Ops.{valid-linked, valid-unlinked, valid-renamed, valid-created, valid-folder_synced}
use Rattle.tree_fs.proofs.Files.{valid-filled, valid-file_synced}
use Rattle.tree_fs.proofs.Folders.{valid-folder_made, valid-folder_removed}
use Rattle.tree_mem.specs.CanDo.{CanDo}

pub valid-after : (d : Disk) (op : Op) → IsValid d → CanDo d op → IsValid (after d op)
valid-after d (Link from to true) valid can = valid-linked d from to true valid can
valid-after d (Unlink at true) valid can = valid-unlinked d at true valid can
valid-after d (Rename from to true) valid can = valid-renamed d from to true valid can
valid-after d (Create at true) valid can = valid-created d at true valid can
valid-after d (Fill at bytes true) valid can = valid-filled d at bytes true valid
valid-after d (MakeFolder at true) valid can = valid-folder_made d at true valid can
valid-after d (RemoveFolder at true) valid can = valid-folder_removed d at true valid can
valid-after d (SyncFolder at true) valid can = valid-folder_synced d at true valid
valid-after d (SyncFile at true) valid can = valid-file_synced d at true valid
valid-after d (Link from to false) valid can = valid
valid-after d (Unlink at false) valid can = valid
valid-after d (Rename from to false) valid can = valid
valid-after d (Create at false) valid can = valid
valid-after d (Fill at bytes false) valid can = valid
valid-after d (MakeFolder at false) valid can = valid
valid-after d (RemoveFolder at false) valid can = valid
valid-after d (SyncFolder at false) valid can = valid
valid-after d (SyncFile at false) valid can = valid
