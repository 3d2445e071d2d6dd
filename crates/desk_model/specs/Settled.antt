-- The desk that a settlement leads to.
use Rattle.std.specs.Prelude.{◌≡◌, ℕ, Bool, true, false, if◌then◌else◌, List, [], ◌∷◌, map}
use Rattle.std.specs.Option.{option_map}
use Rattle.std.specs.declared.option.Option.{Option}
use Rattle.std.specs.declared.option.Option.TheVariants.{None, Some}
use Rattle.tree_fs.specs.declared.place.Root.{Root}
use Rattle.tree_fs.specs.declared.place.Root.TheVariants.{Stage, Game, Keep}
use Rattle.tree_fs.specs.Spot.{Spot}
use Rattle.tree_fs.specs.Places.{game_spot}
use Rattle.tree_fs.specs.Disk.{Disk, Value, none}
use Rattle.backup_keep.specs.Origins.{origin_of}
use Rattle.backup_keep.specs.Asides.{IsNextAside}
use Rattle.change_choices.specs.declared.action.Action.{Action}
use Rattle.change_choices.specs.declared.action.Action.TheVariants.{Aside, Import, Revert, Restore, Drop}
use Rattle.change_choices.specs.declared.action.Action.TheVariants as action
use Rattle.change_choices.specs.declared.class.Class.{Class}
use Rattle.change_choices.specs.declared.class.Class.TheVariants.{Replaced, Changed, Deleted, SourceDeleted, Gone}
use Rattle.change_choices.specs.Allowed.{is_allowed}
use Rattle.manifest_json.specs.declared.manifest.Row.{Row}
use Rattle.manifest_json.specs.declared.manifest.Manifest.{Manifest}
use Rattle.desk_model.specs.Places.{Names, in_game, in_stage, in_aside}
use Rattle.desk_model.specs.Records.{recorded, rows_on, row_at, row_staged}
use Rattle.desk_model.specs.Desk.{Desk, desk, HasBytesOf}
use Rattle.desk_model.specs.Folders.{FolderRule, OwnRule}
use Rattle.desk_model.specs.Deployed.{digest_at}
use Rattle.change_detect.specs.Classes.{staged_of, class_of}

-- the action for a path whose change is of a class
abbrev pub Choice : Type 0
Choice = List ℕ → Class → Action

-- each action is allowed for its class
abbrev pub IsAllowed : Choice → Type 0
IsAllowed choice = (path : List ℕ) (class : Class) → is_allowed class (choice path class) ≡ true

-- what is done with a row: it is left as it is, or what one line of the table of actions says
pub data Deed : Type 0 where
  left_whole : Deed
  put_aside : Deed
  imported : Deed
  reverted : Deed
  accepted : Deed
  linked_again : Deed
  staged_again : Deed
  let_go : Deed
  dropped : Deed

-- the table of actions
abbrev pub deed_by : Class → Action → Deed
deed_by Replaced Aside = put_aside
deed_by Replaced Import = imported
deed_by Replaced Revert = reverted
deed_by Changed action.Keep = accepted
deed_by Deleted Restore = linked_again
deed_by SourceDeleted Restore = staged_again
deed_by SourceDeleted Drop = let_go
deed_by Deleted Drop = dropped
deed_by Gone Drop = dropped
deed_by _ _ = left_whole

-- a clean row is left as it is
abbrev pub deed_for : (Class → Action) → Option Class → Deed
deed_for choose None = left_whole
deed_for choose (Some class) = deed_by class (choose class)

-- what is done with a row of a disk
abbrev pub deed_of : Choice → Disk → Row → Deed
deed_of choice a r = deed_for (choice r.path) (class_of a r)

-- which file both names of a row have afterwards: the staged one, the found one, or there is no row
pub data Kept : Type 0 where
  staged_file : Kept
  found_file : Kept
  no_row : Kept

abbrev pub kept_by : Deed → Kept
kept_by put_aside = staged_file
kept_by reverted = staged_file
kept_by linked_again = staged_file
kept_by left_whole = found_file
kept_by imported = found_file
kept_by accepted = found_file
kept_by staged_again = found_file
kept_by let_go = no_row
kept_by dropped = no_row

-- the place where that file stands before
abbrev pub kept_spot : Row → Kept → Option Spot
kept_spot r staged_file = Some (staged_of r)
kept_spot r found_file = Some (game_spot r.path)
kept_spot r no_row = None

-- the row with the digest of that file
abbrev pub new_digest : Disk → Row → Spot → Row
new_digest a r x = record r { digest = digest_at a x }

abbrev pub settled_row : Disk → Row → Deed → Option Row
settled_row a r left_whole = Some r
settled_row a r deed = option_map (new_digest a r) (kept_spot r (kept_by deed))

abbrev pub some_rows : List (Option Row) → List Row
some_rows [] = []
some_rows (None ∷ os) = some_rows os
some_rows (Some r ∷ os) = r ∷ some_rows os

-- the rows that are left
abbrev pub settled_rows : Choice → Disk → List Row
settled_rows choice a = some_rows (map (λ r. settled_row a r (deed_of choice a r)) (rows_on a))

abbrev pub value_at : Disk → Option Spot → Value
value_at a None = none
value_at a (Some x) = a.now x

-- what is found at the path of this row
abbrev pub settled_found : Choice → Disk → Option Row → Value
settled_found choice a None = none
settled_found choice a (Some r) = value_at a (kept_spot r (kept_by (deed_of choice a r)))

-- whether the found file becomes the staged one
abbrev pub restages : Deed → Bool
restages imported = true
restages staged_again = true
restages _ = false

-- what stands at the staged place of this row
abbrev pub settled_staged : Choice → Disk → Value → Option Row → Value
settled_staged choice a here None = here
settled_staged choice a here (Some r) =
    if restages (deed_of choice a r) then a.now (game_spot r.path) else here

-- whether the found file is set aside, or the staged one
abbrev pub sets_found_aside : Deed → Bool
sets_found_aside put_aside = true
sets_found_aside let_go = true
sets_found_aside _ = false

abbrev pub sets_staged_aside : Deed → Bool
sets_staged_aside imported = true
sets_staged_aside _ = false

-- the file of the origin where its row's file is set aside, otherwise what stands there already
abbrev pub set_aside : Disk → (Row → Bool) → Spot → Value → Option Row → Value
set_aside a goes origin there None = there
set_aside a goes origin there (Some r) = if goes r then a.now origin else there

-- what is kept of an origin, by its root
abbrev pub kept_of : Choice → Disk → Value → Root → Names → Value
kept_of choice a there Game p =
    set_aside a (λ r. sets_found_aside (deed_of choice a r)) (in_game p) there
    (row_at (rows_on a) p)
kept_of choice a there Stage p =
    set_aside a (λ r. sets_staged_aside (deed_of choice a r)) (in_stage p) there
    (row_staged (rows_on a) p)
kept_of choice a there Keep p = there

abbrev pub settled_aside : Choice → Disk → Value → Option Spot → Value
settled_aside choice a there None = there
settled_aside choice a there (Some x) = kept_of choice a there x.root x.names

-- after a settlement each row that isn't clean is as its line of the table says, and all else is as
-- it was
pub record Settled (a : Disk) (choice : Choice) (new : Desk) : Type 0 where
  pub plain : new.plain ≡ (desk a).plain
  pub manifest : Manifest
  pub is_manifest : new.manifest ≡ recorded manifest
  pub rows : manifest.rows ≡ settled_rows choice a
  pub found : (p : Names) → new.found p ≡ settled_found choice a (row_at (rows_on a) p)
  pub staged : (p : Names)
      → new.staged p ≡ settled_staged choice a ((desk a).staged p) (row_staged (rows_on a) p)
  pub aside : (n : ℕ) → IsNextAside a n → (p : Names)
      → new.aside p ≡ settled_aside choice a ((desk a).aside p) (origin_of n (in_aside p))
  pub profile : new.profile ≡ (desk a).profile
  pub folders : FolderRule a new
  pub own : OwnRule a new
  pub bytes : HasBytesOf new (desk a)
