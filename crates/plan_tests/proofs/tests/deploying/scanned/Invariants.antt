use Rattle.std.proofs.Common.{◌≡◌}
use Rattle.tree_fs.specs.Story.{disk_of}
use Rattle.tree_mem.specs.MemStory.{mem_story}
use Rattle.deploy_plan.specs.Scanned.{AreScanned, HasOwnIds}
use Rattle.plan_tests.proofs.tests.deploying.scanned.Given as goal

abbrev pub invariant-loop-id : goal.invariant-loop-id
invariant-loop-id g l = record {
  scanned : AreScanned (disk_of (mem_story l.tree)) l.scans.items l.sources.items;
  own : HasOwnIds l.scans.items;
  same : mem_story l.tree ≡ mem_story l.initial.tree;
}
