use Rattle.tree_fs.specs.Spot.{spot_of}
use Rattle.tree_mem.proofs.Parts.{disk_folder, on_ok}
use Rattle.tree_mem.proofs.disk.MemDisk.add_folder.Goals as goal

pub returns-clause-ok : goal.returns-clause-ok
returns-clause-ok c = on_ok c.set_item.result (λ h. disk_folder c.args.self.now c.set_item.new.self (spot_of c.args.at.now) h c.requires.absent) c.set_item.ensures.ok
