-- The plan of a deployment on a disk is one.
use Rattle.std.proofs.Common.{◌≡◌, subst}
use Rattle.tree_fs.specs.Disk.{Disk}
use Rattle.move_plan.specs.declared.plan.Plan.{Plan}
use Rattle.plan_model.specs.Rows.{old_of}
use Rattle.deploy_plan.specs.Plans.{DeployPlan}
use Rattle.deploy_plan.proofs.OnePlan.{deploy_once}
use Rattle.command_steps.specs.Plans.{HasPlan}
use Rattle.command_steps.proofs.OneWins.{one_wins}

pub one_plan : (d : Disk) (p q : Plan) → HasPlan d p → HasPlan d q → p ≡ q
one_plan d p q a b = deploy_once d (old_of d) a.wins p q a.is (subst (λ w. DeployPlan d (old_of d) w q) (one_wins d b.wins a.wins b.has_wins a.has_wins) b.is)
