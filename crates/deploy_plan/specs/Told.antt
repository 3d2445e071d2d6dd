-- What the walk finds of each path, and what follows from it.
use Rattle.std.specs.Prelude.{◌≡◌, ℕ, Bool, true, false, List, if◌then◌else◌}
use Rattle.std.specs.declared.option.Option.{Option}
use Rattle.std.specs.declared.option.Option.TheVariants.{None, Some}
use Rattle.rel_paths.specs.Names.{IsFreePath, IsModId}
use Rattle.tree_fs.specs.Spot.{Spot}
use Rattle.tree_fs.specs.Places.{game_spot}
use Rattle.tree_fs.specs.Disk.{Disk, IsFile}
use Rattle.backup_keep.specs.Places.{backup_spot}
use Rattle.manifest_json.specs.declared.manifest.Row.{Row}
use Rattle.manifest_json.specs.Sound.{IsRow}
use Rattle.change_detect.specs.Classes.{staged_of}
use Rattle.desk_model.specs.Desk.{is_file}
use Rattle.desk_model.specs.Deployed.{Win, won_spot, still_wins, made_row}
use Rattle.plan_model.specs.Rows.{has_original}
use Rattle.plan_model.specs.Moves.{Move}
use Rattle.deploy_plan.specs.declared.wins.Won.{Won}
use Rattle.deploy_plan.specs.declared.steps.WalkStep.{WalkStep}
use Rattle.deploy_plan.specs.declared.steps.WalkStep.TheVariants.{RowAlone, Both, WinAlone}
use Rattle.deploy_plan.specs.declared.cases.PathCase.{PathCase}
use Rattle.deploy_plan.specs.declared.cases.PathCase.TheVariants.{Leaves, Stays, Turns, Comes, Covers}
use Rattle.manifest_json.specs.Paths.{AreRising}
use Rattle.winner_table.specs.Folders.{AreApart}
use Rattle.std.specs.List.{AllByRecursion}
use Rattle.deploy_plan.specs.Wins.{won_paths, HasApartWins}
use Rattle.deploy_plan.specs.Walk.{Step, row_alone, both, win_alone}

-- what is found of a path
pub data Told : Type 0 where
  -- an old row that loses its path, and whether its original is kept
  leaving : Row → Bool → Told
  staying : Row → Told
  turning : Row → Win → Told
  coming : Win → Told
  covering : Win → Told

abbrev pub told_win : Win → Bool → Told
told_win w true = covering w
told_win w false = coming w

abbrev pub told : Disk → Step → Told
told a (row_alone r) = leaving r (has_original a r)
told a (both r w) = if still_wins r w then staying r else turning r w
told a (win_alone w) = told_win w (is_file (a.now (game_spot w.path)))

-- the path
abbrev pub told_path : Told → List ℕ
told_path (leaving r kept) = r.path
told_path (staying r) = r.path
told_path (turning r w) = r.path
told_path (coming w) = w.path
told_path (covering w) = w.path

-- what is set, saved and cleared
abbrev pub told_set : Told → Option (Spot × Move)
told_set (leaving r kept) =
    Some (
      game_spot r.path,
      record
          { from = if kept then Some (backup_spot r.path) else None; back = Some (staged_of r) },
    )
told_set (staying r) = None
told_set (turning r w) =
    Some (game_spot r.path, record { from = Some (won_spot w); back = Some (staged_of r) })
told_set (coming w) = Some (game_spot w.path, record { from = Some (won_spot w); back = None })
told_set (covering w) =
    Some (game_spot w.path, record { from = Some (won_spot w); back = Some (backup_spot w.path) })

abbrev pub told_save : Told → Option (Spot × Spot)
told_save (leaving r kept) = None
told_save (staying r) = None
told_save (turning r w) = None
told_save (coming w) = None
told_save (covering w) = Some (game_spot w.path, backup_spot w.path)

abbrev pub told_clear : Told → Option Spot
told_clear (leaving r kept) = if kept then Some (backup_spot r.path) else None
told_clear (staying r) = None
told_clear (turning r w) = None
told_clear (coming w) = None
told_clear (covering w) = None

-- the place of a file that is there no more in the end: the backup that goes back, or the file at
-- the row's path
abbrev pub told_emptied : Told → Option Spot
told_emptied (leaving r kept) = Some (if kept then backup_spot r.path else game_spot r.path)
told_emptied (staying r) = None
told_emptied (turning r w) = None
told_emptied (coming w) = None
told_emptied (covering w) = None

-- the new row
abbrev pub told_row : Disk → Told → Option Row
told_row a (leaving r kept) = None
told_row a (staying r) = Some r
told_row a (turning r w) = Some (made_row a w r.shadowed)
told_row a (coming w) = Some (made_row a w false)
told_row a (covering w) = Some (made_row a w true)

-- the winner that a row is of
abbrev pub row_win : Row → Win
row_win r = record { path = r.path; mod_id = r.mod_id; source = r.source }

-- the winner of a new row
abbrev pub told_win_of : Told → Option Win
told_win_of (leaving r kept) = None
told_win_of (staying r) = Some (row_win r)
told_win_of (turning r w) = Some w
told_win_of (coming w) = Some w
told_win_of (covering w) = Some w

abbrev pub step_win : Step → Option Win
step_win (row_alone r) = None
step_win (both r w) = Some w
step_win (win_alone w) = Some w

-- As the program has them

abbrev pub win_seen : Won → Win
win_seen w = record { path = w.path.now; mod_id = w.mod_id.now; source = w.source.now }

abbrev pub won_path : Won → List ℕ
won_path w = w.path.now

abbrev pub step_seen : WalkStep → Step
step_seen (RowAlone r) = row_alone r.now
step_seen (Both r w) = both r.now (win_seen w)
step_seen (WinAlone w) = win_alone (win_seen w)

abbrev pub case_seen : PathCase → Told
case_seen (Leaves r kept) = leaving r.now kept
case_seen (Stays r) = staying r.now
case_seen (Turns r w) = turning r.now (win_seen w)
case_seen (Comes w) = coming (win_seen w)
case_seen (Covers w) = covering (win_seen w)

-- a winner with a mod's id and with free paths
pub record IsWin (w : Win) : Type 0 where
  pub path : IsFreePath w.path
  pub mod_id : IsModId w.mod_id
  pub source : IsFreePath w.source

-- winners in path order, no path below another, those of one mod from sources that are apart
pub record AreGoodWins (wins : List Win) : Type 0 where
  pub each : AllByRecursion IsWin wins
  pub rise : AreRising (won_paths wins)
  pub apart : AreApart (won_paths wins)
  pub sources : HasApartWins wins

abbrev pub IsGoodStep : Step → Type 0
IsGoodStep (row_alone r) = IsRow r
IsGoodStep (both r w) = IsRow r × IsWin w × (r.path ≡ w.path)
IsGoodStep (win_alone w) = IsWin w

abbrev pub IsGoodCase : Told → Type 0
IsGoodCase (leaving r kept) = IsRow r
IsGoodCase (staying r) = IsRow r
IsGoodCase (turning r w) = IsRow r × IsWin w
IsGoodCase (coming w) = IsWin w
IsGoodCase (covering w) = IsWin w

-- the file that is set to the path is there
abbrev pub HasStaged : Disk → Told → Type 0
HasStaged a (leaving r kept) = Unit {0}
HasStaged a (staying r) = Unit {0}
HasStaged a (turning r w) = IsFile a (won_spot w)
HasStaged a (coming w) = IsFile a (won_spot w)
HasStaged a (covering w) = IsFile a (won_spot w)

-- the case of a step is a good one, for the same winner
abbrev pub IsCaseOf : Step → Told → Type 0
IsCaseOf s c = IsGoodCase c × (told_win_of c ≡ step_win s)
