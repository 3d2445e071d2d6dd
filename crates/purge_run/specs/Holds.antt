-- What a purge does at each path, column by column.
use Rattle.std.specs.Prelude.{◌≡◌, ℕ, Bool, true, false, List}
use Rattle.std.specs.declared.option.Option.{Option}
use Rattle.std.specs.declared.option.Option.TheVariants.{None, Some}
use Rattle.rel_paths.specs.Names.{names_of}
use Rattle.tree_fs.specs.Spot.{Spot}
use Rattle.tree_fs.specs.Places.{game_spot}
use Rattle.tree_fs.specs.Disk.{Disk, is_one_file}
use Rattle.backup_keep.specs.Places.{backup_spot, aside_spot}
use Rattle.manifest_json.specs.declared.manifest.Row.{Row}
use Rattle.change_detect.specs.Classes.{staged_of}
use Rattle.desk_model.specs.Places.{Names}
use Rattle.desk_model.specs.Records.{row_at}
use Rattle.desk_model.specs.Desk.{is_file}
use Rattle.plan_model.specs.Rows.{has_original, from_backup}
use Rattle.plan_model.specs.Moves.{Move, Moves, at_game}

-- what is found at a path
pub data Hold : Type 0 where
  -- there is no row
  unheld : Hold
  -- the staged file itself
  linked : Row → Hold
  -- another file, or the staged entry is no file
  over : Row → Hold
  -- no file
  bare : Row → Hold

abbrev pub hold_row : Row → (one_file taken : Bool) → Hold
hold_row r true taken = linked r
hold_row r false true = over r
hold_row r false false = bare r

-- what is found at the path of a row
abbrev pub held_row : Disk → Row → Hold
held_row a r =
    hold_row r
    (is_one_file (a.now (game_spot r.path)) (a.now (staged_of r)))
    (is_file (a.now (game_spot r.path)))

abbrev pub hold_by : Disk → Option Row → Hold
hold_by a None = unheld
hold_by a (Some r) = held_row a r

unfoldable pub hold_of : Disk → List Row → Names → Hold
hold_of a rows p = hold_by a (row_at rows p)

-- where the file at a game path is set aside
abbrev pub aside_at : ℕ → List ℕ → Spot
aside_at n path = aside_spot n (game_spot path)

-- what a path is set to where no file stands: its original, if there is one
abbrev pub bare_set : Disk → Row → Bool → Option Move
bare_set a r true = Some (record { from = Some (backup_spot r.path); back = None })
bare_set a r false = None

-- what a game path is set to: its original, or nothing. The file that stood there stays at the
-- row's staged place, or where it is set aside
abbrev pub purge_set : Disk → ℕ → Hold → Option Move
purge_set a n unheld = None
purge_set a n (linked r) = Some (record { from = from_backup a r; back = Some (staged_of r) })
purge_set a n (over r) = Some (record { from = from_backup a r; back = Some (aside_at n r.path) })
purge_set a n (bare r) = bare_set a r (has_original a r)

-- a file that stands over a link is set aside
pub record SetsAside (a : Disk) (rows : List Row) (n : ℕ) (from to : Spot) : Type 0 where
  pub row : Row
  pub case : hold_of a rows (names_of row.path) ≡ over row
  pub source : game_spot row.path ≡ from
  pub here : aside_at n row.path ≡ to

-- a backup that goes back to its path is cleared
pub record FreesOriginal (a : Disk) (rows : List Row) (x : Spot) : Type 0 where
  pub row : Row
  pub at : row_at rows (names_of row.path) ≡ Some row
  pub original : has_original a row ≡ true
  pub here : backup_spot row.path ≡ x

abbrev pub purge_moves : Disk → List Row → ℕ → Moves
purge_moves a rows n = record {
  sets = λ x. at_game (λ p. purge_set a n (hold_of a rows p)) x.root x.names;
  saves = SetsAside a rows n;
  clears = FreesOriginal a rows;
}
