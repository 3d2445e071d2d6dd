-- Old rows and winners walked together in path order, and the lists that the walk makes.
use Rattle.std.specs.Prelude.{ℕ, if◌then◌else◌, List, [], ◌∷◌, map, filter_map}
use Rattle.std.specs.Ordering.{nat_cmp}
use Rattle.std.specs.Cmp.Lexicographic.{slice_cmp}
use Rattle.std.specs.declared.cmp.Ordering.{Ordering}
use Rattle.std.specs.declared.cmp.Ordering.TheVariants.{Less, Equal, Greater}
use Rattle.std.specs.declared.option.Option.{Option}
use Rattle.std.specs.declared.option.Option.TheVariants.{None, Some}
use Rattle.tree_fs.specs.Spot.{Spot}
use Rattle.tree_fs.specs.Places.{game_spot}
use Rattle.tree_fs.specs.Disk.{Disk}
use Rattle.backup_keep.specs.Places.{backup_spot}
use Rattle.manifest_json.specs.declared.manifest.Row.{Row}
use Rattle.desk_model.specs.Desk.{is_file}
use Rattle.desk_model.specs.Deployed.{Win, still_wins}
use Rattle.plan_model.specs.Rows.{from_backup}
use Rattle.plan_model.specs.Moves.{Move}
use Rattle.plan_model.specs.Lists.{at_place}
use Rattle.deploy_plan.specs.Cases.{Case, untouched, leaves, stays, turns, comes, covers, case_by, set_by}

-- a path of an old row, of both, or of a winner
pub data Step : Type 0 where
  row_alone : Row → Step
  both : Row → Win → Step
  win_alone : Win → Step

abbrev pub step_path : Step → List ℕ
step_path (row_alone r) = r.path
step_path (both r w) = r.path
step_path (win_alone w) = w.path

-- one row against one winner: `here` where they are at one path
abbrev pub by_order : Ordering → (row_first here win_first : List Step) → List Step
by_order Less row_first here win_first = row_first
by_order Equal row_first here win_first = here
by_order Greater row_first here win_first = win_first

-- a row before winners, where `more` puts the later rows before winners
abbrev pub with_row : Row → (List Win → List Step) → List Win → List Step
with_row r more [] = row_alone r ∷ more []
with_row r more (w ∷ ws) =
    by_order (slice_cmp nat_cmp r.path w.path)
    (row_alone r ∷ more (w ∷ ws))
    (both r w ∷ more ws)
    (win_alone w ∷ with_row r more ws)

-- the steps in path order
unfoldable pub merged : List Row → List Win → List Step
merged [] ws = map win_alone ws
merged (r ∷ rows) ws = with_row r (merged rows) ws

-- the case of a step: only a winner alone looks at the disk
abbrev pub step_case : Disk → Step → Case
step_case a (row_alone r) = leaves r
step_case a (both r w) = if still_wins r w then stays r else turns r w
step_case a (win_alone w) = case_by None (Some w) (is_file (a.now (game_spot w.path)))

abbrev pub step_set : Disk → Step → Option (Spot × Move)
step_set a s = at_place (game_spot (step_path s)) (set_by a (step_case a s))

-- the sets in the order of the walk, which is that of a plan
abbrev pub walked_sets : Disk → List Row → List Win → List (Spot × Move)
walked_sets a rows wins = filter_map (step_set a) (merged rows wins)

abbrev pub save_by : Case → Option (Spot × Spot)
save_by untouched = None
save_by (leaves r) = None
save_by (stays r) = None
save_by (turns r w) = None
save_by (comes w) = None
save_by (covers w) = Some (game_spot w.path, backup_spot w.path)

abbrev pub clear_by : Disk → Case → Option Spot
clear_by a untouched = None
clear_by a (leaves r) = from_backup a r
clear_by a (stays r) = None
clear_by a (turns r w) = None
clear_by a (comes w) = None
clear_by a (covers w) = None

abbrev pub step_save : Disk → Step → Option (Spot × Spot)
step_save a s = save_by (step_case a s)

abbrev pub step_clear : Disk → Step → Option Spot
step_clear a s = clear_by a (step_case a s)

-- the saves and the clears of the walk. In a plan they are sorted by their own places, which may be
-- in another order than their paths
abbrev pub walked_saves : Disk → List Row → List Win → List (Spot × Spot)
walked_saves a rows wins = filter_map (step_save a) (merged rows wins)

abbrev pub walked_clears : Disk → List Row → List Win → List Spot
walked_clears a rows wins = filter_map (step_clear a) (merged rows wins)
