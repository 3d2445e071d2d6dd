use Rattle.tree_mem.proofs.Parts.{disk_same, on_err}
use Rattle.tree_mem.proofs.disk.MemDisk.link.Goals as goal

pub returns-clause-err : goal.returns-clause-err
returns-clause-err c = on_err c.put_file.result (disk_same c.args.self.now c.put_file.new.self) c.put_file.ensures.err
