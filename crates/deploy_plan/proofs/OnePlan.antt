-- A deployment has one plan.
use Rattle.std.proofs.Common.{◌≡◌, List, sym, ap, ◌∙◌}
use Rattle.std.specs.declared.option.Option.TheVariants.{Some}
use Rattle.tree_fs.specs.Disk.{Disk}
use Rattle.manifest_json.specs.declared.manifest.Manifest.{Manifest}
use Rattle.move_plan.specs.declared.plan.Plan.{Plan}
use Rattle.desk_model.specs.Deployed.{Win}
use Rattle.plan_model.proofs.OnePlan.{same_moves, own_once, same_plan}
use Rattle.deploy_plan.specs.Cases.{deploy_moves}
use Rattle.deploy_plan.specs.Plans.{DeployPlan}

pub deploy_once : (a : Disk) (old : Manifest) (wins : List Win) (p q : Plan) → DeployPlan a old wins p → DeployPlan a old wins q → p ≡ q
deploy_once a old wins p q dp dq =
    let same = same_moves (deploy_moves a old.rows wins) p q dp.moves dq.moves in
    let rows = dp.rows ∙ sym dq.rows in
    let own = own_once a old.folders p q same dp.manifest.folders dq.manifest.folders dp.own dq.own in
    let manifest : dp.manifest ≡ dq.manifest = λ i. record { rows = rows i; folders = own i } in
    same_plan a old.folders (deploy_moves a old.rows wins) p q dp.moves dq.moves dp.folders dq.folders (dp.is_manifest ∙ ap Some manifest ∙ sym dq.is_manifest)
