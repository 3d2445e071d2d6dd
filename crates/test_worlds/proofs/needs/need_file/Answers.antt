use Rattle.std.proofs.Common.{sym, ◌∙◌}
use Rattle.tree_fs.specs.Spot.{spot_of}
use Rattle.tree_fs.specs.Story.{disk_of}
use Rattle.tree_fs.proofs.KindOf.{kind-file}
use Rattle.tree_mem.specs.MemStory.{mem_story}
use Rattle.test_worlds.proofs.needs.need_file.Goals as goal

pub returns-in-File-clause-file : goal.returns-in-File-clause-file
returns-in-File-clause-file c = (kind-file (disk_of (mem_story c.kind_at.new.tree)) (spot_of c.args.at.now) (sym c.in_ok-kind_at.ensures.answer ∙ c.in-File.is)).1
