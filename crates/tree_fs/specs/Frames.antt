-- What some steps leave as it was, place by place.
use Rattle.std.specs.Prelude.{◌≡◌, ◌≢◌, ◌⊎◌, ℕ, true, false}
use Rattle.tree_fs.specs.declared.op.Op.{Op}
use Rattle.tree_fs.specs.declared.op.Op.TheVariants.{MakeFolder, RemoveFolder, Fill}
use Rattle.tree_fs.specs.Spot.{Spot, spot_of, is_entry}
use Rattle.tree_fs.specs.Disk.{Disk, Value, none, file, MayHold, IsSettled, IsValid}

-- what a place may hold on the one disk it may hold on the other
abbrev pub HoldsWithin : Disk → Disk → Type 0
HoldsWithin d e = (q : Spot) (v : Value) → MayHold d q v → MayHold e q v

-- nothing changes but the values of places
pub record SameFiles (d e : Disk) : Type 0 where
  pub folders : e.folders ≡ d.folders
  pub bytes : e.bytes ≡ d.bytes
  pub firm : e.firm ≡ d.firm
  pub fresh : e.fresh ≡ d.fresh

-- e has the folders of d, its places only values that they have in d, and what is firm in d is so in e
pub record Fewer (e d : Disk) : Type 0 where
  pub folders : e.folders ≡ d.folders
  pub within : HoldsWithin e d
  pub files : (n : ℕ) → d.firm n ≡ true → (e.firm n ≡ true) × (e.bytes n ≡ d.bytes n)

-- beside one place each holds only what it held, and has what it had; that place may have got none, or w
pub record Touches (at : Spot) (w : Value) (a e : Disk) : Type 0 where
  pub valid : IsValid e
  pub files : SameFiles a e
  pub own : (v : Value) → MayHold e at v → MayHold a at v ⊎ (v ≡ none) ⊎ (v ≡ w)
  pub others : (x : Spot) (v : Value) → x ≢ at → MayHold e x v → MayHold a x v
  pub now : (x : Spot) → x ≢ at → e.now x ≡ a.now x

-- nothing is done but syncs of folders
pub record Syncs (a e : Disk) : Type 0 where
  pub valid : IsValid e
  pub files : SameFiles a e
  pub held : HoldsWithin e a
  pub now : (x : Spot) → e.now x ≡ a.now x

-- nothing is pending in a folder
abbrev pub EntriesSettled : Disk → Spot → Type 0
EntriesSettled d folder = (x : Spot) → is_entry folder x ≡ true → IsSettled d x

-- a step that leaves the folders as they are, and changes the bytes of no firm file
abbrev pub IsGentle : Disk → Op → Type 0
IsGentle d (MakeFolder at true) = ⊥
IsGentle d (RemoveFolder at true) = ⊥
IsGentle d (Fill at bytes true) = (n : ℕ) → d.now (spot_of at) ≡ file n → d.firm n ≡ false
IsGentle d _ = Unit {0}
