-- All that a user owns on a disk.
use Rattle.std.specs.Prelude.{◌≡◌, ◌↔◌, ℕ, true, if◌then◌else◌, List, [], ◌∷◌, Bool, false}
use Rattle.std.specs.declared.option.Option.{Option}
use Rattle.std.specs.declared.option.Option.TheVariants.{None, Some}
use Rattle.tree_fs.specs.Spot.{Spot, spot_eq}
use Rattle.tree_fs.specs.Disk.{Disk, Value, none, file, odd}
use Rattle.manifest_json.specs.declared.manifest.Row.{Row}
use Rattle.desk_model.specs.Places.{Names, in_game, in_stage, in_aside, behind, manifest_spot, IsUsers}
use Rattle.desk_model.specs.Records.{Recorded, rows_of, manifest_of, profile_text, row_at, row_behind}

-- what the places hold, but for the manifest's, which counts by what it says
unfoldable pub without_manifest : (Spot → Value) → Spot → Value
without_manifest now x = if spot_eq x manifest_spot then none else now x

abbrev pub is_file : Value → Bool
is_file none = false
is_file odd = false
is_file (file n) = true

abbrev pub file_or_none : Value → Value
file_or_none none = none
file_or_none odd = none
file_or_none (file n) = file n

-- what belongs at a path, by its row and by the row whose backup it is: at a shadowed row's path
-- the file of the backup place, at another row's path none, at the backup place of a shadowed row
-- none, and elsewhere what is there
abbrev pub plain_by : Option Row → Option Row → (here back : Value) → Value
plain_by (Some r) shadow here back = if r.shadowed then file_or_none back else none
plain_by None (Some shadow) here back = none
plain_by None None here back = here

-- the game folder without mods
unfoldable pub plain : List Row → (Spot → Value) → Names → Value
plain rows now p = plain_by (row_at rows p) (row_behind rows p) (now (in_game p)) (now (behind p))

abbrev pub found_by : Option Row → Value → Value
found_by None here = none
found_by (Some r) here = file_or_none here

-- the files that are found at the paths of rows
unfoldable pub found : List Row → (Spot → Value) → Names → Value
found rows now p = found_by (row_at rows p) (now (in_game p))

-- what lies below the aside folder
abbrev pub aside_of : (Spot → Value) → Names → Value
aside_of now [] = none
aside_of now (n ∷ ns) = now (in_aside (n ∷ ns))

-- what a desk is read from
pub record View : Type 1 where
  pub manifest : Recorded
  pub profile : Option (List ℕ)
  pub values : Spot → Value
  pub folders : Spot → Type 0
  pub bytes : ℕ → List ℕ

-- a disk as it stands
abbrev pub view : Disk → View
view d = record {
  manifest = manifest_of d;
  profile = profile_text d;
  values = without_manifest d.now;
  folders = λ s. d.folders s ≡ true;
  bytes = d.bytes;
}

-- all that a user owns: the game folder without mods, the manifest, the files found at the paths
-- of its rows, what is unpacked, what was set aside, the bytes of the profile, the folders of
-- `game` and `stage`, and the bytes of the files that these parts name
pub record Desk : Type 1 where
  pub plain : Names → Value
  pub manifest : Recorded
  pub found : Names → Value
  pub staged : Names → Value
  pub aside : Names → Value
  pub profile : Option (List ℕ)
  pub folders : Spot → Type 0
  pub bytes : ℕ → List ℕ

abbrev pub desk_of : View → Desk
desk_of v = record {
  plain = plain (rows_of v.manifest) v.values;
  manifest = v.manifest;
  found = found (rows_of v.manifest) v.values;
  staged = λ p. v.values (in_stage p);
  aside = aside_of v.values;
  profile = v.profile;
  folders = λ s. IsUsers s.root × v.folders s;
  bytes = v.bytes;
}

-- the desk of a disk
abbrev pub desk : Disk → Desk
desk d = desk_of (view d)

-- a file that one of the parts names
pub data IsNamed (k : Desk) (n : ℕ) : Type 0 where
  in_plain : (p : Names) → k.plain p ≡ file n → IsNamed k n
  in_found : (p : Names) → k.found p ≡ file n → IsNamed k n
  in_staged : (p : Names) → k.staged p ≡ file n → IsNamed k n
  in_asides : (p : Names) → k.aside p ≡ file n → IsNamed k n

-- the files that the first desk names have the same bytes in both
abbrev pub HasBytesOf : Desk → Desk → Type 0
HasBytesOf k l = (n : ℕ) → IsNamed k n → k.bytes n ≡ l.bytes n

-- two desks are one, but perhaps for some folders
pub record SameDeskBut (free : Spot → Type 0) (k l : Desk) : Type 0 where
  pub plain : k.plain ≡ l.plain
  pub manifest : k.manifest ≡ l.manifest
  pub found : k.found ≡ l.found
  pub staged : k.staged ≡ l.staged
  pub aside : k.aside ≡ l.aside
  pub profile : k.profile ≡ l.profile
  pub folders : (s : Spot) → ¬ free s → (k.folders s ↔ l.folders s)
  pub bytes : HasBytesOf k l

-- two desks are one
abbrev pub SameDesk : Desk → Desk → Type 0
SameDesk k l = SameDeskBut (λ s. ⊥) k l
