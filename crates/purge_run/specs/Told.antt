-- What the row walk finds of each row, and what follows from it.
use Rattle.std.specs.Prelude.{◌≡◌, ℕ, Bool, true, false, if◌then◌else◌, List}
use Rattle.std.specs.List.{Contains}
use Rattle.std.specs.declared.option.Option.{Option}
use Rattle.std.specs.declared.option.Option.TheVariants.{None, Some}
use Rattle.tree_fs.specs.Spot.{Spot}
use Rattle.tree_fs.specs.Places.{game_spot}
use Rattle.tree_fs.specs.Disk.{Disk, is_one_file}
use Rattle.backup_keep.specs.Places.{backup_spot}
use Rattle.manifest_json.specs.declared.manifest.Row.{Row}
use Rattle.change_detect.specs.Classes.{staged_of}
use Rattle.desk_model.specs.Desk.{is_file}
use Rattle.plan_model.specs.Rows.{has_original}
use Rattle.plan_model.specs.Moves.{Move}
use Rattle.plan_model.specs.Lists.{at_place}
use Rattle.purge_run.specs.declared.cases.At.{At}
use Rattle.purge_run.specs.declared.cases.At.TheVariants.{Linked, Over, Bare}
use Rattle.purge_run.specs.declared.cases.RowCase.{RowCase}
use Rattle.purge_run.specs.declared.lists.Which.{Which}
use Rattle.purge_run.specs.declared.lists.Which.TheVariants.{Restored, Emptied, Backups}
use Rattle.purge_run.specs.Holds.{aside_at}

-- a row, what stands at its path, and whether its original is kept
pub record Told : Type 0 where
  pub row : Row
  pub at : At
  pub kept : Bool

abbrev pub at_by : (one_file taken : Bool) → At
at_by true taken = Linked
at_by false true = Over
at_by false false = Bare

abbrev pub at_of : Disk → Row → At
at_of a r =
    at_by
    (is_one_file (a.now (game_spot r.path)) (a.now (staged_of r)))
    (is_file (a.now (game_spot r.path)))

abbrev pub told : Disk → Row → Told
told a r = record { row = r; at = at_of a r; kept = has_original a r }

-- as the program has it
abbrev pub case_seen : RowCase → Told
case_seen c = record { row = c.row.now; at = c.at; kept = c.has_original }

-- one of these has a file to be set aside
pub record HasOver (rows : List Told) : Type 0 where
  pub row : Told
  pub among : Contains rows row
  pub over : row.at ≡ Over

-- where the original of a row is, if it is kept
abbrev pub original_at : Row → Bool → Option Spot
original_at r kept = if kept then Some (backup_spot r.path) else None

-- what is set
abbrev pub bare_move : Row → Bool → Option Move
bare_move r true = Some (record { from = Some (backup_spot r.path); back = None })
bare_move r false = None

abbrev pub move_by : ℕ → Row → At → Bool → Option Move
move_by n r Linked kept = Some (record { from = original_at r kept; back = Some (staged_of r) })
move_by n r Over kept = Some (record { from = original_at r kept; back = Some (aside_at n r.path) })
move_by n r Bare kept = bare_move r kept

abbrev pub told_set : ℕ → Told → Option (Spot × Move)
told_set n t = at_place (game_spot t.row.path) (move_by n t.row t.at t.kept)

-- what is saved
abbrev pub save_by : ℕ → Row → At → Option (Spot × Spot)
save_by n r Linked = None
save_by n r Over = Some (game_spot r.path, aside_at n r.path)
save_by n r Bare = None

abbrev pub told_save : ℕ → Told → Option (Spot × Spot)
told_save n t = save_by n t.row t.at

-- the names of the place where it is set aside
abbrev pub aside_by : ℕ → Row → At → Option (List (List ℕ))
aside_by n r Linked = None
aside_by n r Over = Some (aside_at n r.path).names
aside_by n r Bare = None

abbrev pub told_aside : ℕ → Told → Option (List (List ℕ))
told_aside n t = aside_by n t.row t.at

-- whether a file stands at the path
abbrev pub stands : At → Bool
stands Linked = true
stands Over = true
stands Bare = false

abbrev pub emptied_by : Row → Bool → Option Spot
emptied_by r true = Some (game_spot r.path)
emptied_by r false = None

-- where the original comes; where there is a file, and none is left; where the original leaves
abbrev pub place_by : Which → Row → At → Bool → Option Spot
place_by Restored r at kept = if kept then Some (game_spot r.path) else None
place_by Emptied r at kept = if kept then None else emptied_by r (stands at)
place_by Backups r at kept = original_at r kept

abbrev pub told_place : Which → Told → Option Spot
told_place which t = place_by which t.row t.at t.kept
