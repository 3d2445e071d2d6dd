-- A settlement with its number has one plan.
use Rattle.std.proofs.Common.{◌≡◌, ℕ, sym, ap, ◌∙◌}
use Rattle.std.specs.declared.option.Option.TheVariants.{Some}
use Rattle.tree_fs.specs.Disk.{Disk}
use Rattle.manifest_json.specs.declared.manifest.Manifest.{Manifest}
use Rattle.move_plan.specs.declared.plan.Plan.{Plan}
use Rattle.desk_model.specs.Settled.{Choice}
use Rattle.plan_model.proofs.OnePlan.{same_moves, own_once, same_plan}
use Rattle.change_settle.specs.Deeds.{settle_moves}
use Rattle.change_settle.specs.Plans.{SettlePlan}

pub settle_once : (choice : Choice) (a : Disk) (old : Manifest) (n : ℕ) (p q : Plan) → SettlePlan choice a old n p → SettlePlan choice a old n q → p ≡ q
settle_once choice a old n p q dp dq =
    let same = same_moves (settle_moves choice a old.rows n) p q dp.moves dq.moves in
    let rows = dp.rows ∙ sym dq.rows in
    let own = own_once a old.folders p q same dp.manifest.folders dq.manifest.folders dp.own dq.own in
    let manifest : dp.manifest ≡ dq.manifest = λ i. record { rows = rows i; folders = own i } in
    same_plan a old.folders (settle_moves choice a old.rows n) p q dp.moves dq.moves dp.folders dq.folders (dp.is_manifest ∙ ap Some manifest ∙ sym dq.is_manifest)
