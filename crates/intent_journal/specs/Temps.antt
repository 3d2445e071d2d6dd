-- The temps, and what writing them and putting them in their places changes.
use Rattle.std.specs.Prelude.{◌≡◌, ◌≢◌, ◌⊎◌, ℕ, ◌<◌, ◌≤◌, true, false, List}
use Rattle.rel_paths.specs.declared.control.Control.{Control}
use Rattle.rel_paths.specs.declared.control.Control.TheVariants as control
use Rattle.tree_fs.specs.Spot.{Spot}
use Rattle.tree_fs.specs.Texts.{control_spot}
use Rattle.tree_fs.specs.declared.name.Kind.TheVariants.{File, Absent}
use Rattle.tree_fs.specs.Disk.{Disk, Value, file, MayHold, HoldsOnly, IsSettled, IsValid, put, kind_of}
use Rattle.desk_model.specs.Places.{IsTemp}
use Rattle.intent_journal.specs.declared.temp.Temp.{Temp}
use Rattle.intent_journal.specs.declared.temp.Temp.TheVariants.{Intent, Manifest, Profile}

abbrev pub temp_control : Temp → Control
temp_control Intent = control.IntentTemp
temp_control Manifest = control.ManifestTemp
temp_control Profile = control.ProfileTemp

abbrev pub place_control : Temp → Control
place_control Intent = control.Intent
place_control Manifest = control.Manifest
place_control Profile = control.Profile

-- where the temp is written
abbrev pub temp_spot : Temp → Spot
temp_spot which = control_spot (temp_control which)

-- the place that it is for
abbrev pub place_spot : Temp → Spot
place_spot which = control_spot (place_control which)

abbrev pub IsFileOrAbsent : Disk → Spot → Type 0
IsFileOrAbsent d x = (kind_of d x ≡ File) ⊎ (kind_of d x ≡ Absent)

-- every file but those of temps is firm
abbrev pub IsFirmBut : Disk → Type 0
IsFirmBut d = (x : Spot) (n : ℕ) → MayHold d x (file n) → d.firm n ≡ false → IsTemp x

-- nothing changes but at a temp and at its place, and files that are firm stay so
pub record Beside (which : Temp) (a e : Disk) : Type 0 where
  pub valid : IsValid e
  pub folders : e.folders ≡ a.folders
  pub held : (x : Spot) (v : Value) → x ≢ place_spot which → x ≢ temp_spot which
      → MayHold e x v → MayHold a x v
  pub now : (x : Spot) → x ≢ place_spot which → x ≢ temp_spot which → e.now x ≡ a.now x
  pub files : (n : ℕ) → n < a.fresh → a.firm n ≡ true → (e.firm n ≡ true) × (e.bytes n ≡ a.bytes n)
  pub fresh : a.fresh ≤ e.fresh
  pub firm : IsFirmBut a → IsFirmBut e

-- nothing changes but at the temp
pub record Temped (which : Temp) (a e : Disk) : Type 0 where
  pub beside : Beside which a e
  pub place : (v : Value) → MayHold e (place_spot which) v → MayHold a (place_spot which) v
  pub still : e.now (place_spot which) ≡ a.now (place_spot which)

-- nothing changes but that the temp's file may have come to its place
pub record Installs (which : Temp) (a e : Disk) : Type 0 where
  pub beside : Beside which a e
  pub place : (v : Value) → MayHold e (place_spot which) v
      → MayHold a (place_spot which) v ⊎ (v ≡ a.now (temp_spot which))

-- the disk with the temp's file at the place too, as the newest of its values
abbrev pub with_temp : Temp → Disk → Disk
with_temp which d = put d (place_spot which) (d.now (temp_spot which))

-- the temp is a new firm file with these bytes
pub record IsWritten (which : Temp) (text : List ℕ) (d : Disk) : Type 0 where
  pub number : ℕ
  pub now : d.now (temp_spot which) ≡ file number
  pub firm : d.firm number ≡ true
  pub bytes : d.bytes number ≡ text
  -- no other place may hold it
  pub alone : (x : Spot) → MayHold d x (file number) → x ≡ temp_spot which

-- a firm file with these bytes stands at the place alone, and the temp is gone for good
pub record IsInstalled (which : Temp) (text : List ℕ) (d : Disk) : Type 0 where
  pub number : ℕ
  pub only : HoldsOnly d (place_spot which) (file number)
  pub there : kind_of d (place_spot which) ≡ File
  pub firm : d.firm number ≡ true
  pub bytes : d.bytes number ≡ text
  pub gone : kind_of d (temp_spot which) ≡ Absent
  pub settled : IsSettled d (temp_spot which)
