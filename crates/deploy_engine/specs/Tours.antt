-- A tour over a disk, and what it counts.
use Rattle.std.specs.Prelude.{◌≡◌, ◌⊎◌, ℕ, false, [], ◌∷◌, length, IfOk, IfErr}
use Rattle.std.specs.declared.result.Result.{Result}
use Rattle.tree_fs.specs.declared.place.Root.TheVariants.{Game}
use Rattle.tree_fs.specs.Disk.{Disk}
use Rattle.tree_fs.specs.Spot.{root_spot}
use Rattle.tree_fs.specs.Story.{Story, disk_of}
use Rattle.conflict_report.specs.declared.report.Report.{Report}
use Rattle.conflict_report.specs.declared.report.Why.TheVariants.{Override, Rule, Position}
use Rattle.move_plan.specs.declared.plan.Plan.{Plan}
use Rattle.desk_model.specs.Records.{manifest_of, own_of}
use Rattle.tour_counts.specs.declared.tour.Tour.{Tour}
use Rattle.tour_counts.specs.Files.{HasFiles}
use Rattle.tour_counts.specs.Looks.{file_count, decided_count}
use Rattle.command_steps.specs.declared.limits.Limits.{Limits}
use Rattle.command_steps.specs.declared.look.Looked.{Looked}
use Rattle.command_steps.specs.declared.stop.Stop.{Stop}
use Rattle.command_steps.specs.Found.{IsLooked, IsWhole}
use Rattle.command_steps.specs.Orders.{AllPass, IsWhy}
use Rattle.command_steps.specs.Plans.{HasPlan}
use Rattle.command_steps.specs.Stops.{IsFault}
use Rattle.deploy_engine.specs.declared.commands.deploy.Deployment.{Deployment}
use Rattle.deploy_engine.specs.declared.touring.Seen.{Seen}
use Rattle.deploy_engine.specs.Works.{Course, Work, Moves, course}
use Rattle.deploy_engine.specs.Carried.{Did, GaveUp}
use Rattle.deploy_engine.specs.ConflictsWork.{AreConflictsOf, conflicts_work}
use Rattle.deploy_engine.specs.DeployWork.{LeavesDeployed, deploy_work}
use Rattle.command_steps.specs.Inputs.{changes_on}
use Rattle.deploy_engine.specs.CheckWork.{check_work}
use Rattle.deploy_engine.specs.PurgeWork.{LeavesPurged, purge_work}

-- so many files are saved by the plan of the deployment
pub record HasSaves (c : Course) (n : ℕ) : Type 0 where
  pub plan : Plan
  pub has : HasPlan (disk_of c.base) plan
  pub count : n ≡ length plan.saves

-- why a command stopped
abbrev pub Stopped : Work → Limits → Story → Stop → Story → Type 0
Stopped work limits old stop new =
    IsWhy work.steps limits old stop new ⊎ GaveUp work limits old stop new

-- what a deployment did, whatever came of it
pub record Deploys (limits : Limits) (old new : Story) (result : Result Deployment Stop) : Type 0 where
  pub did : IfOk result (λ d. Did deploy_work limits old new false d.lines.items)
  pub saves : IfOk result (λ d. HasSaves (course deploy_work old new) d.saves)
  pub stopped : IfErr result (λ stop. Stopped deploy_work limits old stop new)
  pub moves : Moves deploy_work old new

-- what a look at the mods counted
pub record IsSeen (found : Looked) (report : Report) (seen : Seen) : Type 0 where
  pub mods : seen.mods ≡ length found.ids.items
  pub files : seen.files ≡ file_count found.scans.items
  pub winners : seen.winners ≡ length found.wins.items
  pub by_override : seen.by_override ≡ decided_count Override report.paths.items
  pub by_rule : seen.by_rule ≡ decided_count Rule report.paths.items
  pub by_position : seen.by_position ≡ decided_count Position report.paths.items
  pub pairs : seen.pairs ≡ length report.pairs.items

-- the mods of a disk and their conflicts, counted
pub record SeesMods (d : Disk) (seen : Seen) : Type 0 where
  pub found : Looked
  pub is_looked : IsLooked d found
  pub whole : IsWhole found
  pub report : Report
  pub are_conflicts : AreConflictsOf found report
  pub counts : IsSeen found report seen

abbrev pub seen_of : Tour → Seen
seen_of t = record {
  mods = t.mods;
  files = t.files;
  winners = t.winners;
  by_override = t.by_override;
  by_rule = t.by_rule;
  by_position = t.by_position;
  pairs = t.pairs;
}

-- how many folders the manifest of a disk lists
abbrev pub own_count : Disk → ℕ
own_count d = length (own_of (manifest_of d))

-- the mods and their conflicts were looked at, and the mods were deployed
pub record IsDeployed (limits : Limits) (old deployed : Story) : Type 0 where
  pub looked : AllPass conflicts_work.steps limits old
  pub passed : AllPass deploy_work.steps limits old
  pub leaves : LeavesDeployed (course deploy_work old deployed)
  pub moves : Moves deploy_work old deployed

-- a tour that was taken, and its numbers
pub record IsTour (limits : Limits) (old new : Story) (tour : Tour) : Type 0 where
  -- the mods and their conflicts at the start
  pub sees : SeesMods (disk_of old) (seen_of tour)
  -- the deployment, and what it saved
  pub deployed : Story
  pub deploys : IsDeployed limits old deployed
  pub saved : HasSaves (course deploy_work old deployed) tour.saved
  -- what a check finds then
  pub checked : AllPass check_work.steps limits deployed
  pub folders : tour.folders ≡ own_count (disk_of deployed)
  pub changes : tour.changes ≡ length (changes_on (disk_of deployed))
  -- the purge, and what is left in the game folder
  pub passed : AllPass purge_work.steps limits deployed
  pub leaves : LeavesPurged (course purge_work deployed new)
  pub moves : Moves purge_work deployed new
  pub plain : HasFiles (disk_of new) (root_spot Game ∷ []) tour.plain

-- why a tour stopped: for want of memory or a fault, or as the first of its commands that stopped
pub data StopsTour (limits : Limits) (old new : Story) (stop : Stop) : Type 0 where
  failing : IsFault stop → StopsTour limits old new stop
  looking : IsWhy conflicts_work.steps limits old stop new → StopsTour limits old new stop
  deploying : AllPass conflicts_work.steps limits old → Stopped deploy_work limits old stop new
      → StopsTour limits old new stop
  checking : (deployed : Story) → IsDeployed limits old deployed
      → IsWhy check_work.steps limits deployed stop new → StopsTour limits old new stop
  purging : (deployed : Story) → IsDeployed limits old deployed
      → AllPass check_work.steps limits deployed → Stopped purge_work limits deployed stop new
      → StopsTour limits old new stop
