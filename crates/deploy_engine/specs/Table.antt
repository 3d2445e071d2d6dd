-- THE TABLE: what each command is to do.
use Rattle.std.specs.Prelude.{ℕ, true, false, List}
use Rattle.command_words.specs.declared.command.Command.{Command}
use Rattle.command_words.specs.declared.command.Command.TheVariants.{Order, Winners, Conflicts, Plan, Deploy, Check, Status, Settle, Purge, Recover, Edit, Batch, Sample}
use Rattle.deploy_engine.specs.Works.{Work, no_work}
use Rattle.deploy_engine.specs.OrderWork.{order_work}
use Rattle.deploy_engine.specs.WinnersWork.{winners_work}
use Rattle.deploy_engine.specs.ConflictsWork.{conflicts_work}
use Rattle.deploy_engine.specs.PlanWork.{plan_work}
use Rattle.deploy_engine.specs.DeployWork.{deploy_work}
use Rattle.deploy_engine.specs.CheckWork.{check_work}
use Rattle.deploy_engine.specs.StatusWork.{status_work}
use Rattle.deploy_engine.specs.PurgeWork.{purge_work}
use Rattle.deploy_engine.specs.SettleWork.{settle_work, answered_work}
use Rattle.deploy_engine.specs.RecoverWork.{recover_work}
use Rattle.deploy_engine.specs.EditWork.{edit_work}
use Rattle.deploy_engine.specs.SampleWork.{sample_work}

-- a command by itself, where this is the input
abbrev pub work_of : List ℕ → Command → Work
work_of input Order = order_work
work_of input Winners = winners_work
work_of input Conflicts = conflicts_work
work_of input Plan = plan_work
work_of input Deploy = deploy_work
work_of input Check = check_work
work_of input Status = status_work
work_of input (Settle choices false) = settle_work choices
work_of input (Settle choices true) = answered_work input choices
work_of input Purge = purge_work
work_of input Recover = recover_work
work_of input (Edit edit) = edit_work edit
work_of input Batch = no_work
work_of input (Sample number) = sample_work number
