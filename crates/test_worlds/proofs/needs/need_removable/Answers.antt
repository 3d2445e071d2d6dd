use Rattle.std.proofs.Common.{◌≡◌, sym, subst}
use Rattle.tree_fs.specs.declared.op.Op.TheVariants.{SyncFolder}
use Rattle.tree_fs.specs.Calls.{IsFolder, CanRemoveFolder}
use Rattle.tree_fs.specs.Disk.{Disk, synced}
use Rattle.tree_fs.specs.Spot.{Spot, spot_of}
use Rattle.tree_fs.specs.Story.{Story, disk_of}
use Rattle.tree_fs.proofs.Stories.{disk_of-ok}
use Rattle.tree_mem.specs.MemStory.{mem_story}
use Rattle.test_worlds.proofs.Emptied.{synced_empty}
use Rattle.test_worlds.proofs.needs.need_removable.Goals as goal

pub returns-in-Ok : goal.returns-in-Ok
returns-in-Ok c =
    let q : Spot = spot_of c.args.at.now in
    let listed : Story = mem_story c.need_empty.new.tree in
    let after : disk_of (mem_story c.sync_folder.new.self) ≡ synced (disk_of listed) q = disk_of-ok (SyncFolder c.args.at.now) listed (mem_story c.sync_folder.new.self) c.in-Ok.field-0 c.in-Ok.ensures.adds in
    let folder : IsFolder (disk_of listed) q = subst (λ (s : Story). IsFolder (disk_of s) q) (sym c.need_empty.ensures.same) c.in_ok-need_folder.ensures.folder in
    subst (λ (d : Disk). CanRemoveFolder d q) (sym after) (synced_empty (disk_of listed) q folder c.in_ok-need_no_root.ensures c.in_ok-need_empty.ensures.empty)
