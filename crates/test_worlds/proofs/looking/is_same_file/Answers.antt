use Rattle.std.proofs.Common.{sym, subst}
use Rattle.tree_fs.specs.Disk.{IsFile}
use Rattle.tree_fs.specs.Spot.{spot_of}
use Rattle.tree_fs.specs.Story.{Story, disk_of}
use Rattle.test_worlds.proofs.looking.is_same_file.Goals as goal

pub same-requires-clause-first : goal.same-requires-clause-first
same-requires-clause-first c = subst (λ (s : Story). IsFile (disk_of s) (spot_of c.in_ok-a.a)) (sym c.need_file-2.ensures.same) c.in_ok-need_file.ensures.file
