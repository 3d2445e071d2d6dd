-- The desk that a deployment leads to.
use Rattle.std.specs.Prelude.{◌≡◌, ℕ, Bool, ◌&&◌, if◌then◌else◌, List, [], ◌∷◌, map}
use Rattle.std.specs.Str.{bytes_eq}
use Rattle.std.specs.declared.option.Option.{Option}
use Rattle.std.specs.declared.option.Option.TheVariants.{None, Some}
use Rattle.sha2.specs.Sha256.{sha256}
use Rattle.rel_paths.specs.Names.{names_of}
use Rattle.tree_fs.specs.Spot.{Spot}
use Rattle.tree_fs.specs.Places.{game_spot, staged_spot}
use Rattle.tree_fs.specs.Disk.{Disk, Value, none}
use Rattle.tree_fs.specs.Parts.{bytes_at}
use Rattle.manifest_json.specs.declared.digest.FileDigest.{FileDigest}
use Rattle.manifest_json.specs.declared.manifest.Row.{Row}
use Rattle.manifest_json.specs.declared.manifest.Manifest.{Manifest}
use Rattle.desk_model.specs.Places.{Names, names_eq}
use Rattle.desk_model.specs.Records.{recorded, rows_on, row_at}
use Rattle.desk_model.specs.Desk.{Desk, desk, HasBytesOf, is_file}
use Rattle.desk_model.specs.Folders.{FolderRule, OwnRule}

-- a path, the mod that wins it, and the path of its file below that mod's folder
pub record Win : Type 0 where
  pub path : List ℕ
  pub mod_id : List ℕ
  pub source : List ℕ

-- where a winner's file is unpacked
abbrev pub won_spot : Win → Spot
won_spot w = staged_spot w.mod_id w.source

-- the winner of a path
abbrev pub winner_of : List Win → Names → Option Win
winner_of [] p = None
winner_of (w ∷ ws) p = if names_eq (names_of w.path) p then Some w else winner_of ws p

-- the digest of the file at a place
abbrev pub digest_at : Disk → Spot → FileDigest
digest_at a x = record { bytes = sha256 (bytes_at a x) }

-- the row of a winner, with the digest of its file
abbrev pub made_row : Disk → Win → Bool → Row
made_row a w shadowed = record {
  path = w.path;
  mod_id = w.mod_id;
  source = w.source;
  digest = digest_at a (won_spot w);
  shadowed = shadowed;
}

-- whether a row's mod still wins, from the same source
abbrev pub still_wins : Row → Win → Bool
still_wins r w = bytes_eq r.mod_id w.mod_id && bytes_eq r.source w.source

-- the row of a winner whose path had this row, or none. It is kept whole where its mod still wins;
-- otherwise it is made anew, shadowed as it was. Without an old row it is shadowed where a file
-- stands at its path
abbrev pub row_by : Disk → Win → Option Row → Row
row_by a w None = made_row a w (is_file (a.now (game_spot w.path)))
row_by a w (Some r) = if still_wins r w then r else made_row a w r.shadowed

abbrev pub won_row : Disk → Win → Row
won_row a w = row_by a w (row_at (rows_on a) (names_of w.path))

abbrev pub won_file : Disk → Option Win → Value
won_file a None = none
won_file a (Some w) = a.now (won_spot w)

-- after a deployment of these winners the staged file of each is found at its path, and all else is
-- as it was
pub record Deployed (a : Disk) (wins : List Win) (new : Desk) : Type 0 where
  pub plain : new.plain ≡ (desk a).plain
  pub manifest : Manifest
  pub is_manifest : new.manifest ≡ recorded manifest
  pub rows : manifest.rows ≡ map (won_row a) wins
  pub found : (p : Names) → new.found p ≡ won_file a (winner_of wins p)
  pub staged : new.staged ≡ (desk a).staged
  pub aside : new.aside ≡ (desk a).aside
  pub profile : new.profile ≡ (desk a).profile
  pub folders : FolderRule a new
  pub own : OwnRule a new
  pub bytes : HasBytesOf new (desk a)
