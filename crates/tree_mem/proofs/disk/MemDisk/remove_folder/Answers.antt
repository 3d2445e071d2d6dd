use Rattle.tree_fs.specs.Spot.{spot_of}
use Rattle.tree_mem.proofs.Parts.{disk_no_folder, folder-now}
use Rattle.tree_mem.proofs.disk.MemDisk.remove_folder.Goals as goal

pub returns : goal.returns
returns c = disk_no_folder c.args.self.now c.remove_item.new.self (spot_of c.args.at.now) c.remove_item.ensures (folder-now c.args.self.now (spot_of c.args.at.now) c.requires.folder)
