use Rattle.std.proofs.Common.{OnOk, subst}
use Rattle.tree_fs.specs.Spot.{Spot}
use Rattle.tree_fs.specs.Disk.{IsFile}
use Rattle.tree_fs.specs.Story.{disk_of}
use Rattle.tree_mem.specs.MemStory.{mem_story}
use Rattle.journal_tests.proofs.looks.need_control.Goals as goal

pub returns-clause-file : goal.returns-clause-file
returns-clause-file c = subst (λ (x : Spot). OnOk c.need_file.result (IsFile (disk_of (mem_story c.need_file.new.tree)) x)) c.control.ensures c.need_file.ensures.file
