-- What the code finds of each row, and what follows from it.
use Rattle.std.specs.Prelude.{ℕ, ◌+◌, Bool, true, false, if◌then◌else◌, List, [], ◌∷◌, map}
use Rattle.std.specs.Str.{bytes_eq}
use Rattle.std.specs.declared.option.Option.{Option}
use Rattle.std.specs.declared.option.Option.TheVariants.{None, Some}
use Rattle.tree_fs.specs.Spot.{Spot}
use Rattle.tree_fs.specs.Places.{game_spot}
use Rattle.tree_fs.specs.Disk.{Disk}
use Rattle.backup_keep.specs.Places.{backup_spot, aside_spot}
use Rattle.manifest_json.specs.declared.manifest.Row.{Row}
use Rattle.change_choices.specs.declared.class.Class.{Class}
use Rattle.change_detect.specs.declared.changes.Change.{Change}
use Rattle.change_detect.specs.Classes.{staged_of}
use Rattle.desk_model.specs.Settled.{Choice, Deed, left_whole, put_aside, imported, reverted, accepted, linked_again, staged_again, let_go, dropped, deed_for, deed_of, settled_row}
use Rattle.plan_model.specs.Rows.{has_original}
use Rattle.plan_model.specs.Moves.{Move}
use Rattle.change_settle.specs.Refusals.{restored_spot}
use Rattle.change_settle.specs.declared.acts.Act.{Act}
use Rattle.change_settle.specs.declared.acts.Act.TheVariants as act
use Rattle.change_settle.specs.declared.tasks.Task.{Task}
use Rattle.change_settle.specs.declared.walk.RowStep.{RowStep}

-- what the code says is done with a row
abbrev pub deed_seen : Act → Deed
deed_seen act.Leave = left_whole
deed_seen act.SetAside = put_aside
deed_seen act.Import = imported
deed_seen act.Revert = reverted
deed_seen act.Accept = accepted
deed_seen act.LinkAgain = linked_again
deed_seen act.StageAgain = staged_again
deed_seen act.LetGo = let_go
deed_seen act.Drop = dropped

-- a row with what is done with it
abbrev pub task_seen : Task → Row × Deed
task_seen t = (t.row.now, deed_seen t.act)

abbrev pub task_row : Task → Row
task_row t = t.row.now

-- by the class of each row
abbrev pub tasks_by : Choice → (Row → Option Class) → List Row → List (Row × Deed)
tasks_by choice class rows = map (λ r. (r, deed_for (choice r.path) (class r))) rows

abbrev pub tasks_of : Choice → Disk → List Row → List (Row × Deed)
tasks_of choice a rows = map (λ r. (r, deed_of choice a r)) rows

-- the class of a path by the first of some changes
abbrev pub first_class : List Change → List ℕ → Option Class
first_class [] path = None
first_class (c ∷ cs) path = if bytes_eq c.path path then Some c.class else None

-- the index of the next change
abbrev pub index_with : Option Class → ℕ → ℕ
index_with None i = i
index_with (Some class) i = i + 1

-- a row with what is done with it, and whether its original is kept, where that is looked at
pub record Step : Type 0 where
  pub row : Row
  pub deed : Deed
  pub original : Bool

abbrev pub step_seen : RowStep → Step
step_seen s = record { row = s.row.now; deed = deed_seen s.act; original = s.has_original }

abbrev pub step_row : RowStep → Row
step_row s = s.row.now

-- the original is looked at where the row goes
abbrev pub original_for : Disk → Row → Deed → Bool
original_for a r let_go = has_original a r
original_for a r dropped = has_original a r
original_for a r _ = false

abbrev pub told : Disk → Row × Deed → Step
told a t = record { row = t.0; deed = t.1; original = original_for a t.0 t.1 }

abbrev pub steps_of : Choice → Disk → List Row → List Step
steps_of choice a rows = map (λ r. told a (r, deed_of choice a r)) rows

-- the original of a row's path, where it is kept
abbrev pub behind_if : Row → Bool → Option Spot
behind_if r kept = if kept then Some (backup_spot r.path) else None

abbrev pub set_back : Row → Bool → Option (Spot × Move)
set_back r true =
    Some (game_spot r.path, record { from = Some (backup_spot r.path); back = None })
set_back r false = None

-- what is set, saved and cleared
abbrev pub set_told : ℕ → Row → Deed → Bool → Option (Spot × Move)
set_told n r put_aside kept =
    Some (
      game_spot r.path,
      record { from = Some (staged_of r); back = Some (aside_spot n (game_spot r.path)) },
    )
set_told n r reverted kept =
    Some (
      game_spot r.path,
      record { from = Some (staged_of r); back = Some (aside_spot n (game_spot r.path)) },
    )
set_told n r linked_again kept =
    Some (game_spot r.path, record { from = Some (staged_of r); back = None })
set_told n r let_go kept =
    Some (
      game_spot r.path,
      record { from = behind_if r kept; back = Some (aside_spot n (game_spot r.path)) },
    )
set_told n r dropped kept = set_back r kept
set_told n r imported kept =
    Some (
      staged_of r,
      record { from = Some (game_spot r.path); back = Some (aside_spot n (staged_of r)) },
    )
set_told n r staged_again kept =
    Some (staged_of r, record { from = Some (game_spot r.path); back = None })
set_told n r left_whole kept = None
set_told n r accepted kept = None

abbrev pub step_set : ℕ → Step → Option (Spot × Move)
step_set n s = set_told n s.row s.deed s.original

abbrev pub clear_told : ℕ → Row → Deed → Bool → Option Spot
clear_told n r reverted kept = Some (aside_spot n (game_spot r.path))
clear_told n r let_go kept = behind_if r kept
clear_told n r dropped kept = behind_if r kept
clear_told n r _ kept = None

abbrev pub step_clear : ℕ → Step → Option Spot
step_clear n s = clear_told n s.row s.deed s.original

-- the place where a file is put back
abbrev pub task_restored : Row × Deed → Option Spot
task_restored t = restored_spot t.0 t.1

-- the path at which there is no file any more in the end: that of the backup that goes back, or
-- that of the row
abbrev pub emptied_told : Row → Deed → Bool → Option Spot
emptied_told r let_go kept = Some (if kept then backup_spot r.path else game_spot r.path)
emptied_told r dropped kept = behind_if r kept
emptied_told r _ kept = None

abbrev pub step_emptied : Step → Option Spot
step_emptied s = emptied_told s.row s.deed s.original

-- the path of a row at which there is a file in the end
abbrev pub holding : Row → Deed → Bool → Option (List ℕ)
holding r let_go kept = if kept then Some r.path else None
holding r dropped kept = if kept then Some r.path else None
holding r _ kept = Some r.path

abbrev pub step_holding : Step → Option (List ℕ)
step_holding s = holding s.row s.deed s.original

-- the new row
abbrev pub task_next : Disk → Row × Deed → Option Row
task_next a t = settled_row a t.0 t.1

-- where the file of a row is that is read anew
abbrev pub file_spot : Row → Deed → Option Spot
file_spot r left_whole = None
file_spot r put_aside = Some (staged_of r)
file_spot r reverted = Some (staged_of r)
file_spot r linked_again = Some (staged_of r)
file_spot r imported = Some (game_spot r.path)
file_spot r accepted = Some (game_spot r.path)
file_spot r staged_again = Some (game_spot r.path)
file_spot r let_go = None
file_spot r dropped = None
