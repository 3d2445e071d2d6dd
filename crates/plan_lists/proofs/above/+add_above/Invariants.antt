use Rattle.std.proofs.Common.{length}
use Rattle.rel_paths.specs.Names.{names_of}
use Rattle.plan_lists.proofs.above.+add_above.Given as goal

abbrev pub decreases-add_above : goal.decreases-add_above
decreases-add_above l = length (names_of l.path.now)
