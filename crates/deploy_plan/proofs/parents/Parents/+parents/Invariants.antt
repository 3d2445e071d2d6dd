use Rattle.std.proofs.Common.{◌+◌, ◌*◌, length}
use Rattle.rel_paths.specs.Names.{names_of}
use Rattle.deploy_plan.proofs.parents.Parents.+parents.Given as goal

abbrev pub decreases-has_folder : goal.decreases-has_folder
decreases-has_folder g l = 2 * length (names_of l.path.now) + 1

abbrev pub decreases-has_parents : goal.decreases-has_parents
decreases-has_parents g l = 2 * length (names_of l.path.now)
