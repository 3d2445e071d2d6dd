-- The desk that a purge leads to.
use Rattle.std.specs.Prelude.{◌≡◌, ℕ, Bool, ◌&&◌, not}
use Rattle.std.specs.declared.option.Option.{Option}
use Rattle.std.specs.declared.option.Option.TheVariants.{None, Some}
use Rattle.tree_fs.specs.declared.place.Root.{Root}
use Rattle.tree_fs.specs.declared.place.Root.TheVariants.{Stage, Game, Keep}
use Rattle.tree_fs.specs.Spot.{Spot}
use Rattle.tree_fs.specs.Places.{game_spot}
use Rattle.tree_fs.specs.Disk.{Disk, Value, none, is_one_file}
use Rattle.backup_keep.specs.Origins.{origin_of}
use Rattle.backup_keep.specs.Asides.{IsNextAside}
use Rattle.manifest_json.specs.declared.manifest.Row.{Row}
use Rattle.desk_model.specs.Places.{Names, in_game, in_aside}
use Rattle.desk_model.specs.Records.{nothing, rows_on, row_at}
use Rattle.desk_model.specs.Desk.{Desk, desk, HasBytesOf, is_file}
use Rattle.desk_model.specs.Folders.{FolderRule}
use Rattle.desk_model.specs.Settled.{set_aside}
use Rattle.change_detect.specs.Classes.{staged_of}

-- whether a file that isn't the staged one stands at a row's path
abbrev pub stands_over : Disk → Row → Bool
stands_over a r =
    is_file (a.now (game_spot r.path))
    && not (is_one_file (a.now (game_spot r.path)) (a.now (staged_of r)))

-- what is kept of an origin, by its root
abbrev pub saved_of : Disk → Value → Root → Names → Value
saved_of a there Game p = set_aside a (stands_over a) (in_game p) there (row_at (rows_on a) p)
saved_of a there Stage p = there
saved_of a there Keep p = there

abbrev pub purged_aside : Disk → Value → Option Spot → Value
purged_aside a there None = there
purged_aside a there (Some x) = saved_of a there x.root x.names

-- after a purge there is no manifest and nothing is found, the files that stood over links are set
-- aside, and all else is as it was
pub record Purged (a : Disk) (new : Desk) : Type 0 where
  pub plain : new.plain ≡ (desk a).plain
  pub manifest : new.manifest ≡ nothing
  pub found : (p : Names) → new.found p ≡ none
  pub staged : new.staged ≡ (desk a).staged
  pub aside : (n : ℕ) → IsNextAside a n → (p : Names)
      → new.aside p ≡ purged_aside a ((desk a).aside p) (origin_of n (in_aside p))
  pub profile : new.profile ≡ (desk a).profile
  pub folders : FolderRule a new
  pub bytes : HasBytesOf new (desk a)
