-- A tour, from what its commands did to its numbers.
use Rattle.std.proofs.Common.{◌≡◌, ℕ, List, [], ◌∷◌, length, sym, ap, ◌∙◌, subst}
use Rattle.std.specs.declared.result.Result.{Result}
use Rattle.std.specs.declared.result.Result.TheVariants.{Ok, Err}
use Rattle.tree_fs.specs.declared.place.Root.TheVariants.{Game}
use Rattle.tree_fs.specs.Spot.{root_spot}
use Rattle.tree_fs.specs.Story.{Story, disk_of}
use Rattle.tour_counts.specs.declared.tour.Tour.{Tour}
use Rattle.tour_counts.specs.Files.{HasFiles}
use Rattle.command_steps.specs.declared.limits.Limits.{Limits}
use Rattle.command_steps.specs.declared.stop.Stop.{Stop}
use Rattle.command_steps.specs.Orders.{AllPass, IsWhy, Passed, Takes}
use Rattle.deploy_engine.specs.declared.commands.Report.{Report}
use Rattle.deploy_engine.specs.declared.commands.check.Checked.{Checked}
use Rattle.deploy_engine.specs.declared.commands.deploy.Deployment.{Deployment}
use Rattle.deploy_engine.specs.declared.touring.Seen.{Seen}
use Rattle.deploy_engine.specs.Works.{course}
use Rattle.deploy_engine.specs.Carried.{Carried}
use Rattle.command_steps.specs.Inputs.{changes_on}
use Rattle.deploy_engine.specs.CheckWork.{IsChecked, check_work}
use Rattle.deploy_engine.specs.ConflictsWork.{conflicts_work}
use Rattle.deploy_engine.specs.DeployWork.{deploy_work}
use Rattle.deploy_engine.specs.PurgeWork.{purge_work}
use Rattle.deploy_engine.specs.Tours.{Deploys, HasSaves, SeesMods, IsDeployed, IsTour, StopsTour, deploying, checking, purging, own_count, seen_of}

module _ (limits : Limits) (old : Story) where
  -- the deployment stopped
  pub not_deployed : (at new : Story) (seen : Seen) (stop : Stop) → at ≡ old → Passed conflicts_work.steps limits old at (SeesMods (disk_of old)) seen → Deploys limits at new (Err stop) → StopsTour limits old new stop
  not_deployed at new seen stop same looks is = deploying looks.all (subst (λ s. Deploys limits s new (Err stop)) same is).stopped

  pub is_deployed : (at deployed : Story) (seen : Seen) (d : Deployment) → at ≡ old → Passed conflicts_work.steps limits old at (SeesMods (disk_of old)) seen → Deploys limits at deployed (Ok d) → IsDeployed limits old deployed
  is_deployed at deployed seen d same looks is =
      let from_old = subst (λ s. Deploys limits s deployed (Ok d)) same is in
      record { looked = looks.all; passed = from_old.did.passed; leaves = from_old.did.leaves; moves = from_old.moves }

  -- the check stopped
  pub not_checked : (deployed new : Story) (stop : Stop) → IsDeployed limits old deployed → IsWhy check_work.steps limits deployed stop new → StopsTour limits old new stop
  not_checked deployed new stop is why = checking deployed is why

  -- the purge stopped
  pub not_purged : (deployed at new : Story) (stop : Stop) (checked : Checked) → IsDeployed limits old deployed → at ≡ deployed → Passed check_work.steps limits deployed at (IsChecked (disk_of deployed)) checked → Carried purge_work limits at new (Err stop) → StopsTour limits old new stop
  not_purged deployed at new stop checked is same checks carried = purging deployed is checks.all (subst (λ s. Carried purge_work limits s new (Err stop)) same carried).stopped

  -- all of them were done
  module _ (look_at deployed check_at purged new : Story) (tour : Tour) (d : Deployment) (checked : Checked) (report : Report) where
    pub toured : look_at ≡ old → Passed conflicts_work.steps limits old look_at (SeesMods (disk_of old)) (seen_of tour)
        → Deploys limits look_at deployed (Ok d) → tour.saved ≡ d.saves
        → check_at ≡ deployed → Passed check_work.steps limits deployed check_at (IsChecked (disk_of deployed)) checked → tour.folders ≡ own_count (disk_of deployed) → tour.changes ≡ length checked.changes.items
        → Carried purge_work limits check_at purged (Ok report) → new ≡ purged → HasFiles (disk_of purged) (root_spot Game ∷ []) tour.plain
        → IsTour limits old new tour
    toured same looks deploys saved same_check checks folders changes carried same_new plain =
        let from_old = subst (λ s. Deploys limits s deployed (Ok d)) same deploys in
        let from_deployed = subst (λ s. Carried purge_work limits s purged (Ok report)) same_check carried in
        subst (λ s. IsTour limits old s tour) (sym same_new) (record {
          sees = looks.gives;
          deployed = deployed;
          deploys = record { looked = looks.all; passed = from_old.did.passed; leaves = from_old.did.leaves; moves = from_old.moves };
          saved = subst (HasSaves (course deploy_work old deployed)) (sym saved) from_old.saves;
          checked = checks.all;
          folders = folders;
          changes = changes ∙ ap length checks.gives.changes;
          passed = from_deployed.did.passed;
          leaves = from_deployed.did.leaves;
          moves = from_deployed.moves;
          plain = plain;
        })
