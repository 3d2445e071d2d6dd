-- What a settlement does for each row, column by column.
use Rattle.std.specs.Prelude.{◌≡◌, ℕ, Bool, true, false, List, map}
use Rattle.std.specs.List.{Contains}
use Rattle.std.specs.declared.option.Option.{Option}
use Rattle.std.specs.declared.option.Option.TheVariants.{None, Some}
use Rattle.tree_fs.specs.declared.place.Root.{Root}
use Rattle.tree_fs.specs.declared.place.Root.TheVariants.{Stage, Game, Keep}
use Rattle.tree_fs.specs.Spot.{Spot}
use Rattle.tree_fs.specs.Places.{game_spot}
use Rattle.tree_fs.specs.Disk.{Disk}
use Rattle.backup_keep.specs.Places.{backup_spot, aside_spot}
use Rattle.manifest_json.specs.declared.manifest.Row.{Row}
use Rattle.change_detect.specs.Classes.{staged_of}
use Rattle.desk_model.specs.Places.{Names}
use Rattle.desk_model.specs.Records.{row_at, row_staged}
use Rattle.desk_model.specs.Settled.{Choice, Deed, left_whole, put_aside, imported, reverted, accepted, linked_again, staged_again, let_go, dropped, deed_of, settled_row, some_rows}
use Rattle.plan_model.specs.Rows.{has_original, from_backup}
use Rattle.plan_model.specs.Moves.{Move, Moves}

-- the file comes from this place, and what stood where it goes stays at that one
abbrev pub moved : Spot → Option Spot → Option Move
moved from back = Some (record { from = Some from; back = back })

-- a row that goes and has no file gives way to its original, if there is one
abbrev pub original_move : Row → Bool → Option Move
original_move r true = moved (backup_spot r.path) None
original_move r false = None

-- what the game path of a row is set to. The file that stood there stays where it is set aside
abbrev pub game_move : Disk → ℕ → Row → Deed → Option Move
game_move a n r put_aside = moved (staged_of r) (Some (aside_spot n (game_spot r.path)))
game_move a n r reverted = moved (staged_of r) (Some (aside_spot n (game_spot r.path)))
game_move a n r linked_again = moved (staged_of r) None
game_move a n r let_go =
    Some (record { from = from_backup a r; back = Some (aside_spot n (game_spot r.path)) })
game_move a n r dropped = original_move r (has_original a r)
game_move a n r left_whole = None
game_move a n r imported = None
game_move a n r accepted = None
game_move a n r staged_again = None

-- what the staged place of a row is set to: the found file
abbrev pub stage_move : ℕ → Row → Deed → Option Move
stage_move n r imported = moved (game_spot r.path) (Some (aside_spot n (staged_of r)))
stage_move n r staged_again = moved (game_spot r.path) None
stage_move n r _ = None

-- the place whose file is saved to where it is set aside
abbrev pub saved_spot : Row → Deed → Option Spot
saved_spot r put_aside = Some (game_spot r.path)
saved_spot r reverted = Some (game_spot r.path)
saved_spot r let_go = Some (game_spot r.path)
saved_spot r imported = Some (staged_of r)
saved_spot r _ = None

-- the place that is cleared: that of a file that is given up, or of an original that goes back
abbrev pub cleared_spot : Disk → ℕ → Row → Deed → Option Spot
cleared_spot a n r reverted = Some (aside_spot n (game_spot r.path))
cleared_spot a n r let_go = from_backup a r
cleared_spot a n r dropped = from_backup a r
cleared_spot a n r _ = None

-- a column at the row of a place
abbrev pub at_row : Choice → Disk → (Row → Deed → Option Move) → Option Row → Option Move
at_row choice a column None = None
at_row choice a column (Some r) = column r (deed_of choice a r)

-- the set of a place, by its root
abbrev pub set_of : Choice → Disk → List Row → ℕ → Root → Names → Option Move
set_of choice a rows n Game p = at_row choice a (game_move a n) (row_at rows p)
set_of choice a rows n Stage p = at_row choice a (stage_move n) (row_staged rows p)
set_of choice a rows n Keep p = None

-- a file is saved, to where it is set aside under the number
pub record Saves (choice : Choice) (a : Disk) (rows : List Row) (n : ℕ)
    (from to : Spot) : Type 0 where
  pub row : Row
  pub listed : Contains rows row
  pub saved : saved_spot row (deed_of choice a row) ≡ Some from
  pub here : aside_spot n from ≡ to

pub record Clears (choice : Choice) (a : Disk) (rows : List Row) (n : ℕ) (x : Spot) : Type 0 where
  pub row : Row
  pub listed : Contains rows row
  pub cleared : cleared_spot a n row (deed_of choice a row) ≡ Some x

-- what a settlement moves
abbrev pub settle_moves : Choice → Disk → List Row → ℕ → Moves
settle_moves choice a rows n = record {
  sets = λ x. set_of choice a rows n x.root x.names;
  saves = Saves choice a rows n;
  clears = Clears choice a rows n;
}

-- the row of a row afterwards, if it is kept
abbrev pub next_row : Choice → Disk → Row → Option Row
next_row choice a r = settled_row a r (deed_of choice a r)

-- the rows that are left
abbrev pub next_rows : Choice → Disk → List Row → List Row
next_rows choice a rows = some_rows (map (next_row choice a) rows)
