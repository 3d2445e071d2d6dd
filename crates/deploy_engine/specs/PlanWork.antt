-- `plan`: what a deployment would move is told.
use Rattle.std.specs.Prelude.{◌≡◌, ℕ, List, [], ◌∷◌, ◌++◌}
use Rattle.tree_fs.specs.Disk.{Disk}
use Rattle.move_plan.specs.declared.plan.Plan.{Plan}
use Rattle.move_plan.specs.Lines.{lines_of}
use Rattle.command_steps.specs.Plans.{HasPlan}
use Rattle.command_steps.specs.Steps.{manifest, planned}
use Rattle.command_steps.specs.Orders.{start, up_to_winners}
use Rattle.deploy_engine.specs.Works.{Work, looking, NoChanges}

-- the lines of the plan of a deployment
pub record PrintsPlan (d : Disk) (text : List ℕ) : Type 0 where
  pub plan : Plan
  pub has : HasPlan d plan
  pub lines : text ≡ lines_of plan

abbrev pub plan_work : Work
plan_work = looking (start ++ up_to_winners ++ manifest ∷ planned ∷ []) PrintsPlan NoChanges
