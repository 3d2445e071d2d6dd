-- What a deployment does at each path, column by column.
use Rattle.std.specs.Prelude.{◌≡◌, Bool, true, false, if◌then◌else◌, List}
use Rattle.std.specs.declared.option.Option.{Option}
use Rattle.std.specs.declared.option.Option.TheVariants.{None, Some}
use Rattle.rel_paths.specs.Names.{names_of}
use Rattle.tree_fs.specs.Spot.{Spot}
use Rattle.tree_fs.specs.Places.{game_spot}
use Rattle.tree_fs.specs.Disk.{Disk}
use Rattle.backup_keep.specs.Places.{backup_spot}
use Rattle.manifest_json.specs.declared.manifest.Row.{Row}
use Rattle.change_detect.specs.Classes.{staged_of}
use Rattle.desk_model.specs.Places.{Names, in_game}
use Rattle.desk_model.specs.Records.{row_at}
use Rattle.desk_model.specs.Desk.{is_file}
use Rattle.desk_model.specs.Deployed.{Win, won_spot, winner_of, still_wins, row_by}
use Rattle.plan_model.specs.Rows.{has_original, from_backup}
use Rattle.plan_model.specs.Moves.{Move, Moves, at_game}

-- what becomes of a path
pub data Case : Type 0 where
  untouched : Case
  -- an old row that loses its path
  leaves : Row → Case
  -- an old row whose mod still wins, from the same source
  stays : Row → Case
  -- an old row whose path another mod or source wins
  turns : Row → Win → Case
  -- a winner where no file stands
  comes : Win → Case
  -- a winner where a file of the game stands
  covers : Win → Case

-- by the old row, the winner, and whether a file stands there
abbrev pub case_by : Option Row → Option Win → Bool → Case
case_by None None taken = untouched
case_by (Some r) None taken = leaves r
case_by (Some r) (Some w) taken = if still_wins r w then stays r else turns r w
case_by None (Some w) true = covers w
case_by None (Some w) false = comes w

unfoldable pub case_of : Disk → List Row → List Win → Names → Case
case_of a rows wins p = case_by (row_at rows p) (winner_of wins p) (is_file (a.now (in_game p)))

-- what a game path is set to: what leaves gives way to its original or to nothing, another winner
-- or a new one puts its staged file there. The file that stood there stays at the old row's staged
-- place, or at the backup place
abbrev pub set_by : Disk → Case → Option Move
set_by a untouched = None
set_by a (leaves r) = Some (record { from = from_backup a r; back = Some (staged_of r) })
set_by a (stays r) = None
set_by a (turns r w) = Some (record { from = Some (won_spot w); back = Some (staged_of r) })
set_by a (comes w) = Some (record { from = Some (won_spot w); back = None })
set_by a (covers w) = Some (record { from = Some (won_spot w); back = Some (backup_spot w.path) })

-- a covered file is saved to its backup place
pub record Covers (a : Disk) (rows : List Row) (wins : List Win) (from to : Spot) : Type 0 where
  pub win : Win
  pub case : case_of a rows wins (names_of win.path) ≡ covers win
  pub source : game_spot win.path ≡ from
  pub here : backup_spot win.path ≡ to

-- a backup that goes back to its path is cleared
pub record Frees (a : Disk) (rows : List Row) (wins : List Win) (x : Spot) : Type 0 where
  pub row : Row
  pub case : case_of a rows wins (names_of row.path) ≡ leaves row
  pub original : has_original a row ≡ true
  pub here : backup_spot row.path ≡ x

abbrev pub deploy_moves : Disk → List Row → List Win → Moves
deploy_moves a rows wins = record {
  sets = λ x. at_game (λ p. set_by a (case_of a rows wins p)) x.root x.names;
  saves = Covers a rows wins;
  clears = Frees a rows wins;
}

-- the new row of a winner, by the old rows
abbrev pub next_row : Disk → List Row → Win → Row
next_row a rows w = row_by a w (row_at rows (names_of w.path))
