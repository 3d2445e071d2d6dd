-- Why a deployment has no plan: the first reason, in their order.
use Rattle.std.specs.Prelude.{◌≡◌, ◌≢◌, ◌⊎◌, ℕ, true, List, [], ◌∷◌, length}
use Rattle.std.specs.List.{Contains}
use Rattle.std.specs.Ordering.{nat_cmp}
use Rattle.std.specs.Cmp.Lexicographic.{slice_cmp}
use Rattle.std.specs.declared.cmp.Ordering.TheVariants.{Less}
use Rattle.std.specs.declared.option.Option.{Option}
use Rattle.std.specs.declared.option.Option.TheVariants.{None, Some}
use Rattle.rel_paths.specs.Names.{names_of, extends}
use Rattle.tree_fs.specs.declared.name.Kind.TheVariants.{Absent, File, Other}
use Rattle.tree_fs.specs.Spot.{Spot, spot_of, IsBelow}
use Rattle.tree_fs.specs.Places.{game_spot}
use Rattle.tree_fs.specs.Disk.{Disk, kind_of}
use Rattle.backup_keep.specs.Places.{backup_spot}
use Rattle.manifest_json.specs.declared.manifest.Row.{Row}
use Rattle.change_detect.specs.declared.changes.Change.{Change}
use Rattle.change_detect.specs.Classes.{quick_class_of}
use Rattle.change_detect.specs.Changes.{changes_by}
use Rattle.change_detect.specs.Refusals.{is_blocking, first_blocked}
use Rattle.desk_model.specs.Records.{row_at}
use Rattle.desk_model.specs.Deployed.{Win, winner_of}
use Rattle.plan_model.specs.Rows.{IsFileOrAbsent, IsFolderOrAbsent}
use Rattle.deploy_plan.specs.declared.error.PlanError.{PlanError}
use Rattle.deploy_plan.specs.declared.error.PlanError.TheVariants.{ChangesFound, Turned, Blocked, BackupTaken, Failed, Memory}
use Rattle.deploy_plan.specs.Wins.{won_paths}

-- Changes by others

-- the changes that the quick test finds
abbrev pub found_changes : Disk → List Row → List Change
found_changes a rows = changes_by (quick_class_of a) rows

-- no place of a row is in the way, and every row is clean
pub record HasNoChanges (a : Disk) (rows : List Row) : Type 0 where
  pub unblocked : first_blocked a rows ≡ None
  pub clean : found_changes a rows ≡ []

-- no place of a row is in the way, this is the path of the first change, and there are so many
pub record HasChanges (a : Disk) (rows : List Row) (first : List ℕ) (count : ℕ) : Type 0 where
  pub unblocked : first_blocked a rows ≡ None
  pub change : Change
  pub later : List Change
  pub found : found_changes a rows ≡ change ∷ later
  pub is_first : first ≡ change.path
  pub is_count : count ≡ length (change ∷ later)

-- Paths that would be files and folders at once

-- the path properly extends the path of an old row, or is properly extended by one
pub record IsTurned (rows : List Row) (path : List ℕ) : Type 0 where
  pub row : Row
  pub listed : Contains rows row
  pub turned : (extends path row.path ≡ true) ⊎ (extends row.path path ≡ true)

-- no winning path is turned
abbrev pub NoneTurned : List Row → List Win → Type 0
NoneTurned rows wins = (path : List ℕ) → Contains (won_paths wins) path → ¬ IsTurned rows path

-- the least winning path that is turned
pub record IsFirstTurned (rows : List Row) (wins : List Win) (path : List ℕ) : Type 0 where
  pub won : Contains (won_paths wins) path
  pub turned : IsTurned rows path
  pub least : (other : List ℕ) → Contains (won_paths wins) other → IsTurned rows other
      → slice_cmp nat_cmp other path ≢ Less

-- What is in the way of a path

pub data Obstacle : Type 0 where
  -- something of the wrong kind stands at this place
  blocked : Spot → Obstacle
  -- the file at this path would be saved where something stands already
  backup_taken : List ℕ → Obstacle

-- a folder, or something odd
abbrev pub IsBlocking : Disk → Spot → Type 0
IsBlocking a x = is_blocking (kind_of a x) ≡ true

-- every parent is a folder, or can be made
abbrev pub HasOpenParents : Disk → Spot → Type 0
HasOpenParents a x = (s : Spot) → IsBelow s x → IsFolderOrAbsent a s

-- the outermost parent that is a file or something odd
pub record IsOutermost (a : Disk) (x s : Spot) : Type 0 where
  pub above : IsBelow s x
  pub taken : (kind_of a s ≡ File) ⊎ (kind_of a s ≡ Other)
  pub outermost : HasOpenParents a s

-- of an old row that loses its path: where it is shadowed, a folder or something odd at its backup
-- place
abbrev pub IsRowObstacle : Disk → Row → Obstacle → Type 0
IsRowObstacle a r (blocked x) =
    (r.shadowed ≡ true) × IsBlocking a (backup_spot r.path) × (x ≡ backup_spot r.path)
IsRowObstacle a r (backup_taken path) = ⊥

-- of a winner without an old row: the outermost parent in the way; then a folder or something odd
-- at its own place; then, where a file stands there, whatever stands at its backup place
abbrev pub IsWinObstacle : Disk → Win → Obstacle → Type 0
IsWinObstacle a w (blocked x) =
    IsOutermost a (game_spot w.path) x
    ⊎ HasOpenParents a (game_spot w.path) × IsBlocking a (game_spot w.path)
    × (x ≡ game_spot w.path)
IsWinObstacle a w (backup_taken path) =
    HasOpenParents a (game_spot w.path) × (kind_of a (game_spot w.path) ≡ File)
    × (kind_of a (backup_spot w.path) ≢ Absent) × (path ≡ w.path)

abbrev pub IsObstacleBy : Disk → Option Row → Option Win → Obstacle → Type 0
IsObstacleBy a (Some r) None o = IsRowObstacle a r o
IsObstacleBy a None (Some w) o = IsWinObstacle a w o
IsObstacleBy a (Some r) (Some w) o = ⊥
IsObstacleBy a None None o = ⊥

-- what is in the way of a path
abbrev pub IsObstacle : Disk → List Row → List Win → List ℕ → Obstacle → Type 0
IsObstacle a rows wins path o =
    IsObstacleBy a (row_at rows (names_of path)) (winner_of wins (names_of path)) o

-- what is in the way of the least path that has something in its way
pub record IsFirstObstacle (a : Disk) (rows : List Row) (wins : List Win) (o : Obstacle) : Type 0 where
  pub path : List ℕ
  pub there : IsObstacle a rows wins path o
  pub least : (other : List ℕ) (another : Obstacle) → IsObstacle a rows wins other another
      → slice_cmp nat_cmp other path ≢ Less

-- a winner of a path without an old row
abbrev pub IsNewWin : List Row → List Win → Win → Type 0
IsNewWin rows wins w = Contains wins w × (row_at rows (names_of w.path) ≡ None)

-- nothing is in the way of any path
pub record WalkPasses (a : Disk) (rows : List Row) (wins : List Win) : Type 0 where
  pub behind : (r : Row) → Contains rows r → winner_of wins (names_of r.path) ≡ None
      → r.shadowed ≡ true → IsFileOrAbsent a (backup_spot r.path)
  pub parents : (w : Win) → IsNewWin rows wins w → HasOpenParents a (game_spot w.path)
  pub place : (w : Win) → IsNewWin rows wins w → IsFileOrAbsent a (game_spot w.path)
  pub free : (w : Win) → IsNewWin rows wins w → kind_of a (game_spot w.path) ≡ File
      → kind_of a (backup_spot w.path) ≡ Absent

-- nothing refuses the plan
pub record NoRefusal (a : Disk) (rows : List Row) (wins : List Win) : Type 0 where
  pub changes : HasNoChanges a rows
  pub turned : NoneTurned rows wins
  pub walk : WalkPasses a rows wins

-- an answer that is no fault of the tree and no want of memory
abbrev pub IsRefusal : PlanError → Type 0
IsRefusal (ChangesFound first count) = Unit {0}
IsRefusal (Turned path) = Unit {0}
IsRefusal (Blocked place) = Unit {0}
IsRefusal (BackupTaken path) = Unit {0}
IsRefusal Failed = ⊥
IsRefusal Memory = ⊥

-- the first reason, with what it carries
abbrev pub IsPlanRefusal : Disk → List Row → List Win → PlanError → Type 0
IsPlanRefusal a rows wins (ChangesFound first count) = HasChanges a rows first count
IsPlanRefusal a rows wins (Turned path) = HasNoChanges a rows × IsFirstTurned rows wins path
IsPlanRefusal a rows wins (Blocked place) =
    (first_blocked a rows ≡ Some (spot_of place))
    ⊎ HasNoChanges a rows × NoneTurned rows wins
    × IsFirstObstacle a rows wins (blocked (spot_of place))
IsPlanRefusal a rows wins (BackupTaken path) =
    HasNoChanges a rows × NoneTurned rows wins × IsFirstObstacle a rows wins (backup_taken path)
IsPlanRefusal a rows wins Failed = Unit {0}
IsPlanRefusal a rows wins Memory = Unit {0}
