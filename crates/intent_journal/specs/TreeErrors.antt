-- Failures of a tree, as answers about intents.
use Rattle.tree_fs.specs.declared.tree.TreeError.{TreeError}
use Rattle.tree_fs.specs.declared.tree.TreeError.TheVariants as tree
use Rattle.intent_journal.specs.declared.error.IntentError.{IntentError}
use Rattle.intent_journal.specs.declared.error.IntentError.TheVariants.{Failed, Memory}

abbrev pub of_tree : TreeError → IntentError
of_tree tree.Failed = Failed
of_tree tree.Memory = Memory
