-- The plans of commands on a disk.
use Rattle.std.specs.Prelude.{List}
use Rattle.std.specs.declared.option.Option.{Option}
use Rattle.tree_fs.specs.Disk.{Disk}
use Rattle.change_choices.specs.declared.choices.Choices.{Choices}
use Rattle.change_choices.specs.Choice.{choice}
use Rattle.manifest_json.specs.declared.manifest.Manifest.{Manifest}
use Rattle.move_plan.specs.declared.plan.Plan.{Plan}
use Rattle.move_plan.specs.Idle.{IsIdle}
use Rattle.desk_model.specs.Deployed.{Win}
use Rattle.plan_model.specs.Rows.{old_of}
use Rattle.deploy_plan.specs.Plans.{DeployPlan}
use Rattle.purge_run.specs.Plans.{IsPurgePlan}
use Rattle.change_settle.specs.Plans.{IsSettlePlan}
use Rattle.command_steps.specs.Looks.{HasWins}
use Rattle.command_steps.specs.Manifests.{HasManifest}

-- the plan that deploys the winners of the disk over its manifest
pub record HasPlan (d : Disk) (plan : Plan) : Type 0 where
  pub wins : List Win
  pub has_wins : HasWins d wins
  pub is : DeployPlan d (old_of d) wins plan

-- the plan that purges the disk
abbrev pub HasPurgePlan : Disk → Plan → Type 0
HasPurgePlan d plan = IsPurgePlan d (old_of d) plan

-- the plan that settles the changes of the disk by these choices
abbrev pub HasSettlePlan : Choices → Disk → Plan → Type 0
HasSettlePlan choices d plan = IsSettlePlan (choice choices) d (old_of d) plan

-- the plan moves nothing, and its manifest is the one that is there
pub record IsIdleOn (d : Disk) (plan : Plan) : Type 0 where
  pub there : Option Manifest
  pub has : HasManifest d there
  pub idle : IsIdle plan there
