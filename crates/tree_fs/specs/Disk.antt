-- A disk, what a step makes of it, and what a stop leaves.
use Rattle.std.specs.Prelude.{◌≡◌, ◌≢◌, ◌⊎◌, ℕ, ◌+◌, ◌<◌, Bool, true, false, ◌==◌, if◌then◌else◌, List, [], ◌∷◌}
use Rattle.tree_fs.specs.declared.op.Op.{Op}
use Rattle.tree_fs.specs.declared.op.Op.TheVariants.{Link, Unlink, Rename, Create, Fill, MakeFolder, RemoveFolder, SyncFolder, SyncFile}
use Rattle.tree_fs.specs.declared.place.Root.{Root}
use Rattle.tree_fs.specs.declared.name.Kind.{Kind}
use Rattle.tree_fs.specs.declared.name.Kind.TheVariants.{Absent, File, Folder, Other}
use Rattle.tree_fs.specs.Spot.{Spot, spot_of, spot_eq, root_spot, parent, is_entry}

-- what a place holds: no file, the file with this number, or something odd
pub data Value : Type 0 where
  none : Value
  file : ℕ → Value
  odd : Value

pub record Disk : Type 0 where
  pub folders : Spot → Bool
  -- the value of a place
  pub now : Spot → Value
  -- the values that a place held before, since its folder was last synced, newest first
  pub before : Spot → List Value
  -- the bytes of a file
  pub bytes : ℕ → List ℕ
  -- whether a file's bytes stay as they are in a stop
  pub firm : ℕ → Bool
  -- the files have the numbers below this one
  pub fresh : ℕ

-- whether a value is one of these
abbrev pub IsIn : Value → List Value → Type 0
IsIn v [] = ⊥
IsIn v (x ∷ xs) = (v ≡ x) ⊎ IsIn v xs

-- a value that a place may hold after a stop
abbrev pub MayHold : Disk → Spot → Value → Type 0
MayHold d q v = (v ≡ d.now q) ⊎ IsIn v (d.before q)

-- a place whose list has one value, the present one
abbrev pub IsSettled : Disk → Spot → Type 0
IsSettled d q = (v : Value) → MayHold d q v → v ≡ d.now q

-- a place whose list has one value, which is this
abbrev pub HoldsOnly : Disk → Spot → Value → Type 0
HoldsOnly d q v = (w : Value) → MayHold d q w → w ≡ v

-- a stop leaves each place as it is
abbrev pub NothingPending : Disk → Type 0
NothingPending d = (q : Spot) → d.before q ≡ []

abbrev pub IsFile : Disk → Spot → Type 0
IsFile d q = (n : ℕ) × (d.now q ≡ file n)

abbrev pub kind_at : Value → Kind
kind_at none = Absent
kind_at (file n) = File
kind_at odd = Other

-- what stands at a place
abbrev pub kind_of : Disk → Spot → Kind
kind_of d q = if d.folders q then Folder else kind_at (d.now q)

-- what holds of every disk
pub record IsValid (d : Disk) : Type 0 where
  -- the three roots are folders
  pub roots : (r : Root) → d.folders (root_spot r) ≡ true
  -- a folder lies in a folder
  pub nested : (q : Spot) → d.folders q ≡ true → d.folders (parent q) ≡ true
  -- so does what holds a file or something odd, or did
  pub parents : (q : Spot) (v : Value) → MayHold d q v → v ≢ none → d.folders (parent q) ≡ true
  -- a folder's own place holds nothing now
  pub bare : (q : Spot) → d.folders q ≡ true → d.now q ≡ none
  -- each number that a place may hold is that of a file
  pub numbers : (q : Spot) (n : ℕ) → MayHold d q (file n) → n < d.fresh

-- a function that differs at one place
unfoldable pub set_at : {X : Type 0} → (Spot → X) → Spot → X → Spot → X
set_at f p x q = if spot_eq q p then x else f q

-- a function that differs at one number
unfoldable pub set_number : {X : Type 0} → (ℕ → X) → ℕ → X → ℕ → X
set_number f n x k = if k == n then x else f k

-- the place gets a new value
abbrev pub put : Disk → Spot → Value → Disk
put d p v = record d { now = set_at d.now p v; before = set_at d.before p (d.now p ∷ d.before p) }

unfoldable pub before_synced : (Spot → List Value) → Spot → Spot → List Value
before_synced before folder q = if is_entry folder q then [] else before q

-- the entries of a folder keep only what they hold now
abbrev pub synced : Disk → Spot → Disk
synced d folder = record d { before = before_synced d.before folder }

abbrev pub is_one_file : Value → Value → Bool
is_one_file (file m) (file n) = m == n
is_one_file _ _ = false

abbrev pub filled : Disk → Value → List ℕ → Disk
filled d (file n) bytes = record d { bytes = set_number d.bytes n bytes; firm = set_number d.firm n false }
filled d none bytes = d
filled d odd bytes = d

abbrev pub made_firm : Disk → Value → Disk
made_firm d (file n) = record d { firm = set_number d.firm n true }
made_firm d none = d
made_firm d odd = d

abbrev pub created : Disk → Spot → Disk
created d at = put (record d { bytes = set_number d.bytes d.fresh []; firm = set_number d.firm d.fresh false; fresh = d.fresh + 1 }) at (file d.fresh)

abbrev pub renamed : Disk → Spot → Spot → Disk
renamed d from to = if is_one_file (d.now from) (d.now to) then d else put (put d to (d.now from)) from none

-- the disk after one step, which has no effect where it is not done
abbrev pub after : Disk → Op → Disk
after d (Link from to true) = put d (spot_of to) (d.now (spot_of from))
after d (Unlink at true) = put d (spot_of at) none
after d (Rename from to true) = renamed d (spot_of from) (spot_of to)
after d (Create at true) = created d (spot_of at)
after d (Fill at bytes true) = filled d (d.now (spot_of at)) bytes
after d (MakeFolder at true) = record d { folders = set_at d.folders (spot_of at) true }
after d (RemoveFolder at true) = record d { folders = set_at d.folders (spot_of at) false }
after d (SyncFolder at true) = synced d (spot_of at)
after d (SyncFile at true) = made_firm d (d.now (spot_of at))
after d (Link from to false) = d
after d (Unlink at false) = d
after d (Rename from to false) = d
after d (Create at false) = d
after d (Fill at bytes false) = d
after d (MakeFolder at false) = d
after d (RemoveFolder at false) = d
after d (SyncFolder at false) = d
after d (SyncFile at false) = d

abbrev pub after_all : Disk → List Op → Disk
after_all d [] = d
after_all d (op ∷ ops) = after_all (after d op) ops

-- a disk that a stop may leave
pub record Image (d left : Disk) : Type 0 where
  pub folders : (q : Spot) → left.folders q ≡ d.folders q
  -- each place by itself holds one of the values that it may hold
  pub value : (q : Spot) → d.folders q ≡ false → MayHold d q (left.now q)
  pub bare : (q : Spot) → d.folders q ≡ true → left.now q ≡ none
  pub settled : NothingPending left
  -- a file that isn't firm may have any bytes
  pub bytes : (n : ℕ) → d.firm n ≡ true → left.bytes n ≡ d.bytes n
  pub firm : (n : ℕ) → left.firm n ≡ true
  pub fresh : left.fresh ≡ d.fresh
