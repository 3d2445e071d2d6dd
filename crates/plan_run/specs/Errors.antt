-- The errors of the calls below, as errors of a run.
use Rattle.intent_journal.specs.declared.error.ReadyError.{ReadyError}
use Rattle.intent_journal.specs.declared.error.ReadyError.TheVariants as ready
use Rattle.plan_exec.specs.declared.error.ExecError.{ExecError}
use Rattle.plan_exec.specs.declared.error.ExecError.TheVariants as exec
use Rattle.plan_run.specs.declared.error.RunError.{RunError}
use Rattle.plan_run.specs.declared.error.RunError.TheVariants.{TooLong, SourceGone, Blocked, Failed, Memory}

abbrev pub of_ready : ReadyError → RunError
of_ready (ready.TooLong n) = TooLong n
of_ready ready.Memory = Memory

abbrev pub of_exec : ExecError → RunError
of_exec (exec.SourceGone place) = SourceGone place
of_exec (exec.Blocked place) = Blocked place
of_exec exec.Failed = Failed
of_exec exec.Memory = Memory
