-- What is in the way of a step of the walk.
use Rattle.std.specs.Prelude.{◌≡◌, ◌≢◌, ℕ, true, List, ◌∷◌, ◌++◌}
use Rattle.std.specs.List.{AllByRecursion}
use Rattle.std.specs.declared.option.Option.TheVariants.{Some}
use Rattle.change_detect.specs.Refusals.{first_blocked}
use Rattle.tree_fs.specs.declared.name.Kind.TheVariants.{Absent, File}
use Rattle.tree_fs.specs.Spot.{Spot, spot_of}
use Rattle.tree_fs.specs.Places.{game_spot}
use Rattle.tree_fs.specs.Disk.{Disk, kind_of}
use Rattle.backup_keep.specs.Places.{backup_spot}
use Rattle.manifest_json.specs.declared.manifest.Row.{Row}
use Rattle.plan_model.specs.Rows.{IsFileOrAbsent}
use Rattle.deploy_plan.specs.declared.error.PlanError.{PlanError}
use Rattle.deploy_plan.specs.declared.error.PlanError.TheVariants.{ChangesFound, Turned, Blocked, BackupTaken, Failed, Memory}
use Rattle.deploy_plan.specs.Walk.{Step, row_alone, both, win_alone}
use Rattle.deploy_plan.specs.Refusals.{Obstacle, blocked, backup_taken, IsRowObstacle, IsWinObstacle, HasOpenParents, IsBlocking, IsTurned, HasChanges}

-- an answer that tells an obstacle, or a failure
abbrev pub Refused : (Obstacle → Type 0) → PlanError → Type 0
Refused IsThere (Blocked place) = IsThere (blocked (spot_of place))
Refused IsThere (BackupTaken path) = IsThere (backup_taken path)
Refused IsThere (ChangesFound first count) = ⊥
Refused IsThere (Turned path) = ⊥
Refused IsThere Failed = Unit {0}
Refused IsThere Memory = Unit {0}

abbrev pub IsStepObstacle : Disk → Step → Obstacle → Type 0
IsStepObstacle a (row_alone r) o = IsRowObstacle a r o
IsStepObstacle a (both r w) o = ⊥
IsStepObstacle a (win_alone w) o = IsWinObstacle a w o

-- nothing is in the way
abbrev pub IsFreeStep : Disk → Step → Type 0
IsFreeStep a (row_alone r) = r.shadowed ≡ true → IsFileOrAbsent a (backup_spot r.path)
IsFreeStep a (both r w) = Unit {0}
IsFreeStep a (win_alone w) =
    HasOpenParents a (game_spot w.path)
    × IsFileOrAbsent a (game_spot w.path)
    × (kind_of a (game_spot w.path) ≡ File → kind_of a (backup_spot w.path) ≡ Absent)

-- something other than a file stands there
abbrev pub IsAtPlace : Disk → Spot → Obstacle → Type 0
IsAtPlace a x (blocked s) = (s ≡ x) × IsBlocking a x
IsAtPlace a x (backup_taken path) = ⊥

-- the backup place of the path is taken
abbrev pub IsBackupTaken : Disk → List ℕ → Obstacle → Type 0
IsBackupTaken a path (blocked s) = ⊥
IsBackupTaken a path (backup_taken p) = (p ≡ path) × (kind_of a (backup_spot path) ≢ Absent)

-- in the way of a step, and of none before it
pub record IsFirstInTheWay (a : Disk) (steps : List Step) (o : Obstacle) : Type 0 where
  pub front : List Step
  pub step : Step
  pub back : List Step
  pub split : steps ≡ front ++ step ∷ back
  pub free : AllByRecursion (IsFreeStep a) front
  pub there : IsStepObstacle a step o

-- Paths that would be files and folders at once

-- the path of a winner alone isn't turned
abbrev pub IsNotTurned : List Row → Step → Type 0
IsNotTurned rows (row_alone r) = Unit {0}
IsNotTurned rows (both r w) = Unit {0}
IsNotTurned rows (win_alone w) = ¬ IsTurned rows w.path

-- the path of a winner alone, and it is turned
abbrev pub TurnsAt : List Row → Step → List ℕ → Type 0
TurnsAt rows (row_alone r) path = ⊥
TurnsAt rows (both r w) path = ⊥
TurnsAt rows (win_alone w) path = (path ≡ w.path) × IsTurned rows w.path

-- the first such path
pub record IsFirstToTurn (rows : List Row) (steps : List Step) (path : List ℕ) : Type 0 where
  pub front : List Step
  pub step : Step
  pub back : List Step
  pub split : steps ≡ front ++ step ∷ back
  pub before : AllByRecursion (IsNotTurned rows) front
  pub turns : TurnsAt rows step path

-- Answers before the walk

abbrev pub RefusedByChanges : Disk → List Row → PlanError → Type 0
RefusedByChanges a rows (ChangesFound first count) = HasChanges a rows first count
RefusedByChanges a rows (Blocked place) = first_blocked a rows ≡ Some (spot_of place)
RefusedByChanges a rows (Turned path) = ⊥
RefusedByChanges a rows (BackupTaken path) = ⊥
RefusedByChanges a rows Failed = Unit {0}
RefusedByChanges a rows Memory = Unit {0}

abbrev pub RefusedByTurned : List Row → List Step → PlanError → Type 0
RefusedByTurned rows steps (Turned path) = IsFirstToTurn rows steps path
RefusedByTurned rows steps Memory = Unit {0}
RefusedByTurned rows steps (ChangesFound first count) = ⊥
RefusedByTurned rows steps (Blocked place) = ⊥
RefusedByTurned rows steps (BackupTaken path) = ⊥
RefusedByTurned rows steps Failed = ⊥
