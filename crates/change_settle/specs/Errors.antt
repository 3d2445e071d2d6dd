-- The answers for faults of a tree, and for want of a number.
use Rattle.tree_fs.specs.declared.tree.TreeError.{TreeError}
use Rattle.tree_fs.specs.declared.tree.TreeError.TheVariants as tree
use Rattle.backup_keep.specs.declared.error.KeepError.{KeepError}
use Rattle.backup_keep.specs.declared.error.KeepError.TheVariants as keep
use Rattle.change_settle.specs.declared.error.SettleError.{SettleError}
use Rattle.change_settle.specs.declared.error.SettleError.TheVariants.{Blocked, AsideFull, Failed, Memory}

abbrev pub of_tree : TreeError → SettleError
of_tree tree.Failed = Failed
of_tree tree.Memory = Memory

abbrev pub of_keep : KeepError → SettleError
of_keep keep.Failed = Failed
of_keep keep.AsideFull = AsideFull
of_keep (keep.Blocked place) = Blocked place
of_keep keep.Memory = Memory
