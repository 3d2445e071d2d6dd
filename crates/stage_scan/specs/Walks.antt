-- What lies below a mod: the walk over its entries, their faults, its files.
use Rattle.std.specs.Prelude.{◌≡◌, ◌≢◌, ℕ, ◌<◌, false, true, List, [], ◌∷◌, length}
use Rattle.std.specs.List.{AllByRecursion, Contains}
use Rattle.std.specs.List.Sorted.{IsStrictlySortedBy}
use Rattle.std.specs.Ordering.{nat_cmp}
use Rattle.std.specs.Cmp.Lexicographic.{slice_cmp}
use Rattle.std.specs.declared.cmp.Ordering.{Ordering}
use Rattle.std.specs.declared.cmp.Ordering.TheVariants.{Less}
use Rattle.rel_paths.specs.Names.{text_of, names_of, is_reserved, IsUserPath}
use Rattle.tree_fs.specs.declared.name.Kind.{Kind}
use Rattle.tree_fs.specs.declared.name.Kind.TheVariants as kind
use Rattle.tree_fs.specs.declared.place.Root.TheVariants.{Stage}
use Rattle.tree_fs.specs.Spot.{Spot, spot_of, below}
use Rattle.tree_fs.specs.Places.{mod_spot, staged_spot}
use Rattle.tree_fs.specs.Disk.{Disk, kind_of}
use Rattle.stage_scan.specs.declared.scan.Scan.{Scan}
use Rattle.stage_scan.specs.declared.error.ScanError.{ScanError}
use Rattle.stage_scan.specs.declared.error.ScanError.TheVariants as error
use Rattle.stage_scan.specs.Files.{AreInPathOrder}

-- where these names lie below a mod's folder
abbrev pub inside : List ℕ → List (List ℕ) → Spot
inside id names = record { root = Stage; names = id ∷ names }

abbrev pub kind_inside : Disk → List ℕ → List (List ℕ) → Kind
kind_inside d id names = kind_of d (inside id names)

-- an entry below a mod, by its names
pub record IsInside (d : Disk) (id : List ℕ) (names : List (List ℕ)) : Type 0 where
  pub some : names ≢ []
  pub there : kind_inside d id names ≢ kind.Absent

-- the order of the walk: names one by one, each in byte order, and a folder before its content
abbrev pub walk_cmp : List (List ℕ) → List (List ℕ) → Ordering
walk_cmp = slice_cmp (slice_cmp nat_cmp)

abbrev pub IsEarlier : List (List ℕ) → List (List ℕ) → Type 0
IsEarlier a b = walk_cmp a b ≡ Less

-- the entries below a mod in the order of the walk, each once
pub record IsWalk (d : Disk) (id : List ℕ) (walk : List (List (List ℕ))) : Type 0 where
  pub order : IsStrictlySortedBy walk_cmp walk
  pub each : AllByRecursion (IsInside d id) walk
  pub whole : (names : List (List ℕ)) → IsInside d id names → Contains walk names

-- those of them that come before one entry
pub record IsWalkBefore (d : Disk) (id : List ℕ) (at : List (List ℕ)) (walk : List (List (List ℕ))) : Type 0 where
  pub order : IsStrictlySortedBy walk_cmp walk
  pub each : AllByRecursion (IsInside d id) walk
  pub earlier : AllByRecursion (λ names. IsEarlier names at) walk
  pub whole : (names : List (List ℕ)) → IsInside d id names → IsEarlier names at → Contains walk names

-- an entry without a fault of its own
pub record IsSound (k : Kind) (names : List (List ℕ)) : Type 0 where
  pub user : IsUserPath (text_of names)
  pub not_odd : k ≢ kind.Other
  pub free : is_reserved names ≡ false

abbrev pub IsSoundInside : Disk → List ℕ → List (List ℕ) → Type 0
IsSoundInside d id names = IsSound (kind_inside d id names) names

-- the fault of an entry of a kind
abbrev pub IsEntryFault : List ℕ → Kind → List (List ℕ) → ScanError → Type 0
IsEntryFault id k names (error.BadEntry folder name) = (inside id names ≡ below (spot_of folder) name) × (IsUserPath (text_of names) → ⊥)
IsEntryFault id k names (error.OddEntry folder name) = (inside id names ≡ below (spot_of folder) name) × IsUserPath (text_of names) × (k ≡ kind.Other)
IsEntryFault id k names (error.Reserved place) = (inside id names ≡ spot_of place) × IsUserPath (text_of names) × (k ≢ kind.Other) × (is_reserved names ≡ true)
IsEntryFault id k names error.Memory = Unit {0}
IsEntryFault id k names error.NoFolder = ⊥
IsEntryFault id k names error.TooMany = ⊥
IsEntryFault id k names error.Failed = ⊥

-- the fault of an entry that so many come before
abbrev pub IsFaultAfter : ℕ → ℕ → List ℕ → Kind → List (List ℕ) → ScanError → Type 0
IsFaultAfter most count id k names error.TooMany = count ≡ most
IsFaultAfter most count id k names error.NoFolder = ⊥
IsFaultAfter most count id k names error.Failed = Unit {0}
IsFaultAfter most count id k names error.Memory = Unit {0}
IsFaultAfter most count id k names (error.BadEntry folder name) = (count < most) × IsEntryFault id k names (error.BadEntry folder name)
IsFaultAfter most count id k names (error.OddEntry folder name) = (count < most) × IsEntryFault id k names (error.OddEntry folder name)
IsFaultAfter most count id k names (error.Reserved place) = (count < most) × IsEntryFault id k names (error.Reserved place)

-- the first entry of the walk with a fault has this one
pub record IsFirstFault (d : Disk) (id : List ℕ) (most : ℕ) (e : ScanError) : Type 0 where
  pub folder : kind_of d (mod_spot id) ≡ kind.Folder
  pub at : List (List ℕ)
  pub there : IsInside d id at
  pub earlier : List (List (List ℕ))
  pub walk : IsWalkBefore d id at earlier
  pub sound : AllByRecursion (IsSoundInside d id) earlier
  pub fault : IsFaultAfter most (length earlier) id (kind_inside d id at) at e

-- why a mod isn't scanned
abbrev pub IsRefused : Disk → List ℕ → ℕ → ScanError → Type 0
IsRefused d id most error.NoFolder = kind_of d (mod_spot id) ≢ kind.Folder
IsRefused d id most error.Failed = Unit {0}
IsRefused d id most error.Memory = Unit {0}
IsRefused d id most error.TooMany = IsFirstFault d id most error.TooMany
IsRefused d id most (error.BadEntry folder name) = IsFirstFault d id most (error.BadEntry folder name)
IsRefused d id most (error.OddEntry folder name) = IsFirstFault d id most (error.OddEntry folder name)
IsRefused d id most (error.Reserved place) = IsFirstFault d id most (error.Reserved place)

-- the files below a mod, in path order
pub record AreFiles (d : Disk) (id : List ℕ) (files : List (List ℕ)) : Type 0 where
  pub order : AreInPathOrder files
  pub each : AllByRecursion (λ path. kind_of d (staged_spot id path) ≡ kind.File) files
  pub whole : (path : List ℕ) → kind_of d (staged_spot id path) ≡ kind.File → Contains files path

-- how many entries there are below a mod, which have no fault
pub record CountsInside (d : Disk) (id : List ℕ) (count : ℕ) : Type 0 where
  pub walk : List (List (List ℕ))
  pub lists : IsWalk d id walk
  pub sound : AllByRecursion (IsSoundInside d id) walk
  pub counts : count ≡ length walk

-- what a scan tells of a mod
pub record IsScan (d : Disk) (id : List ℕ) (scan : Scan) : Type 0 where
  pub same : scan.mod_id ≡ id
  pub folder : kind_of d (mod_spot id) ≡ kind.Folder
  pub files : AreFiles d id scan.files
  pub entries : CountsInside d id scan.entries
