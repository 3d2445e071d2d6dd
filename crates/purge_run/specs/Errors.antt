-- The answers for faults of a tree, and for what refuses an aside number.
use Rattle.tree_fs.specs.declared.tree.TreeError.{TreeError}
use Rattle.tree_fs.specs.declared.tree.TreeError.TheVariants as tree
use Rattle.backup_keep.specs.declared.error.KeepError.{KeepError}
use Rattle.backup_keep.specs.declared.error.KeepError.TheVariants as keep
use Rattle.purge_run.specs.declared.error.PurgeError.{PurgeError}
use Rattle.purge_run.specs.declared.error.PurgeError.TheVariants.{Blocked, AsideFull, Failed, Memory}

abbrev pub of_tree : TreeError → PurgeError
of_tree tree.Failed = Failed
of_tree tree.Memory = Memory

abbrev pub of_keep : KeepError → PurgeError
of_keep keep.Failed = Failed
of_keep keep.AsideFull = AsideFull
of_keep (keep.Blocked place) = Blocked place
of_keep keep.Memory = Memory
