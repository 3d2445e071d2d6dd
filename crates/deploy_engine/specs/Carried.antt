-- What a command did.
use Rattle.std.specs.Prelude.{◌≡◌, ◌⊎◌, ◌↔◌, ℕ, Bool, List, IsTrue, IfOk, IfErr}
use Rattle.std.specs.declared.result.Result.{Result}
use Rattle.tree_fs.specs.Story.{Story}
use Rattle.command_steps.specs.declared.limits.Limits.{Limits}
use Rattle.command_steps.specs.declared.stop.Stop.{Stop}
use Rattle.command_steps.specs.Orders.{AllPass, IsWhy}
use Rattle.deploy_engine.specs.declared.commands.Report.{Report}
use Rattle.deploy_engine.specs.Works.{Work, Moves, course}

-- a command did its work, and this is what it has to say
pub record Did (work : Work) (limits : Limits) (old new : Story) (changes : Bool) (text : List ℕ) : Type 0 where
  pub passed : AllPass work.steps limits old
  pub leaves : work.Leaves (course work old new)
  pub prints : work.Prints (course work old new) text
  pub finds : IsTrue changes ↔ work.FindsChanges (course work old new)

-- a command passed its steps, and gave up in the midst of its work
pub record GaveUp (work : Work) (limits : Limits) (old : Story) (stop : Stop) (new : Story) : Type 0 where
  pub passed : AllPass work.steps limits old
  pub amid : work.GivesUp (course work old new) stop

-- what a command did, whatever came of it
pub record Carried (work : Work) (limits : Limits) (old new : Story) (result : Result Report Stop) : Type 0 where
  pub did : IfOk result (λ report. Did work limits old new report.changes report.lines.items)
  pub stopped : IfErr result (λ stop.
      IsWhy work.steps limits old stop new ⊎ GaveUp work limits old stop new)
  pub moves : Moves work old new
  pub quiet : work.OnlyLooks → new ≡ old
