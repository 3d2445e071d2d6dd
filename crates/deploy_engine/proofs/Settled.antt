-- The row of a settlement, where the words ask for no input.
use Rattle.std.proofs.Common.{◌≡◌, ℕ, List, true, false, Bool, sym, subst}
use Rattle.std.specs.declared.option.Option.TheVariants.{Some}
use Rattle.std.specs.declared.result.Result.{Result}
use Rattle.tree_fs.specs.Story.{Story}
use Rattle.change_choices.specs.declared.choices.Choices.{Choices}
use Rattle.command_words.specs.declared.command.Command.{Command}
use Rattle.command_words.specs.declared.command.Command.TheVariants.{Settle}
use Rattle.command_steps.specs.declared.limits.Limits.{Limits}
use Rattle.command_steps.specs.declared.stop.Stop.{Stop}
use Rattle.deploy_engine.specs.declared.commands.Report.{Report}
use Rattle.deploy_engine.specs.Words.{TakesInput}
use Rattle.deploy_engine.specs.Carried.{Carried}
use Rattle.deploy_engine.specs.SettleWork.{settle_work}
use Rattle.deploy_engine.specs.Table.{work_of}

-- a settlement that takes no input is settled by its choices alone
pub settled_row : (input : List ℕ) (command : Command) (choices : Choices) (from_input : Bool) (limits : Limits) (old new : Story) (result : Result Report Stop) → command ≡ Settle choices from_input → ¬ TakesInput (Some command) → Carried (settle_work choices) limits old new result → Carried (work_of input command) limits old new result
settled_row input command choices false limits old new result is takes_none carried = subst (λ k. Carried (work_of input k) limits old new result) (sym is) carried
settled_row input command choices true limits old new result is takes_none carried = absurd (takes_none (subst (λ k. TakesInput (Some k)) (sym is) tt))
