-- The laws of a deployment's plan, as claims.
use Rattle.std.specs.Prelude.{◌≡◌, ◌↔◌, ◌⊎◌, ℕ, List, map}
use Rattle.std.specs.List.{Contains, AllByRecursion}
use Rattle.std.specs.declared.option.Option.TheVariants.{None, Some}
use Rattle.tree_fs.specs.Spot.{Spot, spot_of}
use Rattle.tree_fs.specs.Disk.{Disk}
use Rattle.manifest_json.specs.declared.manifest.Row.{Row}
use Rattle.manifest_json.specs.declared.manifest.Manifest.{Manifest}
use Rattle.manifest_json.specs.Sound.{AreRows, AreFolders}
use Rattle.manifest_json.specs.Paths.{AreRising}
use Rattle.manifest_json.specs.Records.{paths_of}
use Rattle.move_plan.specs.declared.plan.Plan.{Plan}
use Rattle.move_plan.specs.Entries.{Listed, listed, set}
use Rattle.move_plan.specs.Rules.{InOrder, KeepsRule, in_order}
use Rattle.move_plan.specs.Sound.{SoundPlan}
use Rattle.intent_json.specs.declared.intent.Phase.TheVariants as phase
use Rattle.desk_model.specs.Deployed.{Win, Deployed}
use Rattle.desk_model.specs.Outcome.{outcome_by}
use Rattle.plan_model.specs.Rows.{old_of}
use Rattle.plan_model.specs.Moves.{LaidOut}
use Rattle.plan_model.specs.Folders.{IsMade, IsOwnFolder, GoesOff, OwnLaidOut}
use Rattle.plan_model.specs.Lists.{spotted, ends_of}
use Rattle.deploy_plan.specs.declared.error.PlanError.{PlanError}
use Rattle.deploy_plan.specs.Wins.{won_paths, AreSoundWins, CanBeRows}
use Rattle.deploy_plan.specs.Cases.{deploy_moves, next_row}
use Rattle.deploy_plan.specs.Walk.{walked_sets, walked_saves, walked_clears}
use Rattle.deploy_plan.specs.Refusals.{NoneTurned, IsFirstTurned, Obstacle, IsFirstObstacle, WalkPasses, NoRefusal, IsRefusal, IsPlanRefusal}
use Rattle.deploy_plan.specs.Folders.{IsMissingFor}
use Rattle.deploy_plan.specs.Plans.{CanDeploy, DeployPlan}

-- the plan over a disk's own manifest, as a set form, leads to the desk of the deployment
abbrev pub DeployLeads : Type 0
DeployLeads =
    (a : Disk) (wins : List Win) (plan : Plan)
    → CanDeploy a (old_of a) wins → DeployPlan a (old_of a) wins plan
    → Deployed a wins (outcome_by a (Some (record { phase = phase.Set; plan = plan })))

-- the plan is sound
abbrev pub DeploySound : Type 0
DeploySound =
    (a : Disk) (old : Manifest) (wins : List Win) (plan : Plan)
    → CanDeploy a old wins → DeployPlan a old wins plan → SoundPlan a plan

-- there is one plan
abbrev pub DeployOnce : Type 0
DeployOnce =
    (a : Disk) (old : Manifest) (wins : List Win) (p q : Plan)
    → DeployPlan a old wins p → DeployPlan a old wins q → p ≡ q

-- a plan with the sets of the walk, and with its saves and clears in their own order, moves what a
-- deployment moves
abbrev pub WalkLaysOut : Type 0
WalkLaysOut =
    (a : Disk) (rows : List Row) (wins : List Win) (plan : Plan)
    → AreRising (paths_of rows) → AreRising (won_paths wins)
    → map spotted plan.sets ≡ walked_sets a rows wins
    → ((y : Spot × Spot)
    → (Contains (map ends_of plan.saves) y ↔ Contains (walked_saves a rows wins) y))
    → ((x : Spot)
    → (Contains (map spot_of plan.clears) x ↔ Contains (walked_clears a rows wins) x))
    → KeepsRule in_order plan → LaidOut (deploy_moves a rows wins) plan

-- the sets of the walk are in the order of a plan
abbrev pub WalkInOrder : Type 0
WalkInOrder =
    (a : Disk) (rows : List Row) (wins : List Win) (plan : Plan)
    → AreRising (paths_of rows) → AreRising (won_paths wins)
    → map spotted plan.sets ≡ walked_sets a rows wins
    → AllByRecursion (λ (e : Listed). InOrder e.entry e.front) (listed set 0 None plan.sets)

-- a plan of a deployment makes the folders that are missing above new winners
abbrev pub MadeForWins : Type 0
MadeForWins =
    (a : Disk) (old : Manifest) (wins : List Win) (plan : Plan)
    → CanDeploy a old wins → LaidOut (deploy_moves a old.rows wins) plan
    → (s : Spot) → (IsMade a plan s ↔ IsMissingFor a old.rows wins s)

-- and takes off old own folders alone
abbrev pub OnlyOwnGo : Type 0
OnlyOwnGo =
    (a : Disk) (old : Manifest) (wins : List Win) (plan : Plan)
    → CanDeploy a old wins → LaidOut (deploy_moves a old.rows wins) plan
    → (s : Spot) → GoesOff a old.folders plan s → IsOwnFolder a old.folders s

-- the new rows of such winners can be those of a manifest
abbrev pub RowsAreKept : Type 0
RowsAreKept =
    (a : Disk) (rows : List Row) (wins : List Win)
    → AreRows rows → AreSoundWins a wins → CanBeRows wins → AreRows (map (next_row a rows) wins)

-- and the new own folders can be those of a manifest
abbrev pub OwnIsKept : Type 0
OwnIsKept =
    (a : Disk) (old : Manifest) (wins : List Win) (plan : Plan) (next : List (List ℕ))
    → CanDeploy a old wins → LaidOut (deploy_moves a old.rows wins) plan
    → OwnLaidOut a old.folders plan next → AreFolders next

-- where nothing refuses the plan, no reason is the first
abbrev pub NoneIsFirst : Type 0
NoneIsFirst =
    (a : Disk) (rows : List Row) (wins : List Win) (error : PlanError)
    → NoRefusal a rows wins → IsRefusal error → ¬ IsPlanRefusal a rows wins error

-- either no winning path is turned, or one is the first that is
abbrev pub TurnedOrNone : Type 0
TurnedOrNone =
    (rows : List Row) (wins : List Win)
    → NoneTurned rows wins ⊎ ((path : List ℕ) × IsFirstTurned rows wins path)

-- either the walk passes, or one thing is the first in the way
abbrev pub ObstacleOrNone : Type 0
ObstacleOrNone =
    (a : Disk) (rows : List Row) (wins : List Win)
    → AreRising (paths_of rows) → AreRising (won_paths wins)
    → WalkPasses a rows wins ⊎ ((o : Obstacle) × IsFirstObstacle a rows wins o)

-- only one reason is the first
abbrev pub FirstIsOne : Type 0
FirstIsOne =
    (a : Disk) (rows : List Row) (wins : List Win) (e f : PlanError)
    → IsRefusal e → IsRefusal f
    → IsPlanRefusal a rows wins e → IsPlanRefusal a rows wins f → e ≡ f
