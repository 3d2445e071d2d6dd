-- Why recovery stops.
use Rattle.intent_journal.specs.declared.error.IntentError.{IntentError}
use Rattle.intent_journal.specs.declared.error.IntentError.TheVariants as found
use Rattle.plan_exec.specs.declared.error.ExecError.{ExecError}
use Rattle.plan_exec.specs.declared.error.ExecError.TheVariants as exec
use Rattle.tree_fs.specs.declared.tree.TreeError.{TreeError}
use Rattle.tree_fs.specs.declared.tree.TreeError.TheVariants as tree
use Rattle.recover_run.specs.declared.error.RecoverError.{RecoverError}
use Rattle.recover_run.specs.declared.error.RecoverError.TheVariants.{BadIntent, SourceGone, Blocked, Failed, Memory}

-- the answer for a tree's fault
abbrev pub of_tree : TreeError → RecoverError
of_tree tree.Failed = Failed
of_tree tree.Memory = Memory

-- the answer where no intent is read
abbrev pub of_intent : IntentError → RecoverError
of_intent found.Failed = Failed
of_intent found.BadIntent = BadIntent
of_intent found.Memory = Memory

-- the answer where a step stops
abbrev pub of_step : ExecError → RecoverError
of_step (exec.SourceGone p) = SourceGone p
of_step (exec.Blocked p) = Blocked p
of_step exec.Failed = Failed
of_step exec.Memory = Memory

-- a fault or want of memory
abbrev pub IsFault : RecoverError → Type 0
IsFault BadIntent = ⊥
IsFault (SourceGone p) = ⊥
IsFault (Blocked p) = ⊥
IsFault Failed = Unit {0}
IsFault Memory = Unit {0}
