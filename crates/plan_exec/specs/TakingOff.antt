-- What taking folders off changes.
use Rattle.std.specs.Prelude.{◌≡◌, ◌≢◌, ◌⊎◌, ℕ, true, List}
use Rattle.tree_fs.specs.declared.name.Kind.TheVariants.{Absent}
use Rattle.tree_fs.specs.declared.place.Place.{Place}
use Rattle.tree_fs.specs.Spot.{Spot, below, IsBelow}
use Rattle.tree_fs.specs.Disk.{Disk, none, IsValid, kind_of}
use Rattle.tree_fs.specs.Calls.{IsFolder}
use Rattle.tree_fs.specs.Frames.{HoldsWithin}
use Rattle.move_plan.specs.Places.{Has}

-- nothing is in a folder
abbrev pub IsEmpty : Disk → Spot → Type 0
IsEmpty d folder = (name : List ℕ) → kind_of d (below folder name) ≡ Absent

-- something is in a folder
abbrev pub HasEntry : Disk → Spot → Type 0
HasEntry d folder = (name : List ℕ) × (kind_of d (below folder name) ≢ Absent)

-- a folder may be gone, where it was empty, and entries of it may be settled; nothing else changes
pub record TakesOne (at : Spot) (a e : Disk) : Type 0 where
  pub valid : IsValid e
  pub now : e.now ≡ a.now
  pub held : HoldsWithin e a
  pub bytes : e.bytes ≡ a.bytes
  pub firm : e.firm ≡ a.firm
  pub fresh : e.fresh ≡ a.fresh
  pub others : (x : Spot) → x ≢ at → e.folders x ≡ a.folders x
  pub stays : e.folders at ≡ true → a.folders at ≡ true
  pub gone : a.folders at ≡ true → (e.folders at ≡ true) ⊎ IsEmpty a at

-- below a folder are only folders of the list
pub record IsBareBelow (off : List Place) (a : Disk) (x : Spot) : Type 0 where
  pub no_value : (y : Spot) → IsBelow x y → a.now y ≡ none
  pub folders : (y : Spot) → IsBelow x y → a.folders y ≡ true → Has off y

-- folders of the list may be gone, each where only folders of the list lay below it, and entries of
-- folders may be settled; nothing else changes
pub record TakesOff (off : List Place) (a e : Disk) : Type 0 where
  pub valid : IsValid e
  pub now : e.now ≡ a.now
  pub held : HoldsWithin e a
  pub bytes : e.bytes ≡ a.bytes
  pub firm : e.firm ≡ a.firm
  pub fresh : e.fresh ≡ a.fresh
  pub stays : (x : Spot) → e.folders x ≡ true → a.folders x ≡ true
  pub gone : (x : Spot) → a.folders x ≡ true
      → (e.folders x ≡ true) ⊎ (Has off x × IsBareBelow off a x)

-- each folder of the list that is still there has something in it
abbrev pub OffDone : List Place → Disk → Type 0
OffDone off d = (x : Spot) → Has off x → IsFolder d x → HasEntry d x
