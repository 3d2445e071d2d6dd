use Rattle.tree_fs.specs.Spot.{spot_of}
use Rattle.tree_mem.proofs.Parts.{disk_removed, file-no_folder}
use Rattle.tree_mem.proofs.disk.MemDisk.remove.Goals as goal

pub returns : goal.returns
returns c = disk_removed c.args.self.now c.remove_item.new.self (spot_of c.args.at.now) c.remove_item.ensures (file-no_folder c.args.self.now (spot_of c.args.at.now) c.requires.0 c.requires.1)
