-- The answers for faults of a tree, and for changes that can't be told.
use Rattle.tree_fs.specs.declared.tree.TreeError.{TreeError}
use Rattle.tree_fs.specs.declared.tree.TreeError.TheVariants as tree
use Rattle.change_detect.specs.declared.error.ChangeError.{ChangeError}
use Rattle.change_detect.specs.declared.error.ChangeError.TheVariants as change
use Rattle.deploy_plan.specs.declared.error.PlanError.{PlanError}
use Rattle.deploy_plan.specs.declared.error.PlanError.TheVariants.{Blocked, Failed, Memory}

abbrev pub of_tree : TreeError → PlanError
of_tree tree.Failed = Failed
of_tree tree.Memory = Memory

abbrev pub of_change : ChangeError → PlanError
of_change (change.Blocked place) = Blocked place
of_change change.Failed = Failed
of_change change.Memory = Memory
