use Rattle.std.proofs.Common.{sym, ◌∙◌, inl}
use Rattle.tree_fs.specs.Spot.{spot_of}
use Rattle.tree_fs.specs.Story.{disk_of}
use Rattle.tree_fs.proofs.KindOf.{kind-file}
use Rattle.tree_mem.specs.MemStory.{mem_story}
use Rattle.test_worlds.proofs.needs.need_target.Goals as goal

pub returns-in-File-clause-target : goal.returns-in-File-clause-target
returns-in-File-clause-target c = inl (kind-file (disk_of (mem_story c.kind_at.new.tree)) (spot_of c.args.at.now) (sym c.in_ok-kind_at.ensures.answer ∙ c.in-File.is)).1
