-- What a call asks of the disk, and what it adds to the story.
use Rattle.std.specs.Prelude.{◌≡◌, ◌≢◌, ◌⊎◌, ℕ, Bool, true, false, List, [], ◌∷◌, ◌++◌, OnOk, OnErr}
use Rattle.std.specs.declared.result.Result.{Result}
use Rattle.fault_count.specs.Causes.{HasCause as RoseFor}
use Rattle.tree_fs.specs.declared.name.Kind.TheVariants.{Absent}
use Rattle.tree_fs.specs.declared.op.Op.{Op}
use Rattle.tree_fs.specs.declared.op.Op.TheVariants.{Create, Fill}
use Rattle.tree_fs.specs.declared.place.Place.{Place}
use Rattle.tree_fs.specs.declared.tree.TreeError.{TreeError}
use Rattle.tree_fs.specs.declared.tree.TreeError.TheVariants.{Failed}
use Rattle.tree_fs.specs.Spot.{Spot, parent, below}
use Rattle.tree_fs.specs.Disk.{Disk, none, IsFile, kind_of}
use Rattle.tree_fs.specs.Story.{Story, with_ops}

-- no step, or this one, perhaps not done
abbrev pub AddsMaybe : (Bool → Op) → Story → Story → Type 0
AddsMaybe op old new =
    (new ≡ old) ⊎ (new ≡ with_ops old (op true ∷ [])) ⊎ (new ≡ with_ops old (op false ∷ []))

-- what a call of one step adds to the story: the step where it answers Ok;
-- else perhaps nothing, and perhaps it was not done
pub record AddsOne {T : Type 0} (op : Bool → Op) (old new : Story) (result : Result T TreeError) : Type 0 where
  pub ok : OnOk result (new ≡ with_ops old (op true ∷ []))
  pub err : OnErr result (AddsMaybe op old new)

-- a new file, with a first part of its bytes
pub record AddsFront (at : Place) (bytes : List ℕ) (old new : Story) : Type 0 where
  pub front : List ℕ
  pub rest : List ℕ
  pub parts : bytes ≡ front ++ rest
  pub done : Bool
  pub adds : new ≡ with_ops old (Create at true ∷ Fill at front done ∷ [])

-- what a call that makes a file with these bytes adds to the story: the file and its bytes where it
-- answers Ok; else perhaps nothing, or the file alone, or with a first part of its bytes
pub record AddsNew {T : Type 0} (at : Place) (bytes : List ℕ) (old new : Story) (result : Result T TreeError) : Type 0 where
  pub ok : OnOk result (new ≡ with_ops old (Create at true ∷ Fill at bytes true ∷ []))
  pub err : OnErr result (AddsMaybe (Create at) old new ⊎ AddsFront at bytes old new)

-- what a call tells of its failure
abbrev pub HasCause : {T : Type 0} → ℕ → ℕ → Result T TreeError → Type 0
HasCause before now result = RoseFor Failed before now result

abbrev pub IsFolder : Disk → Spot → Type 0
IsFolder d q = d.folders q ≡ true

-- where a second name can be given to a file
pub record CanLink (d : Disk) (from to : Spot) : Type 0 where
  pub source : IsFile d from
  pub absent : d.now to ≡ none
  pub no_folder : d.folders to ≡ false
  pub in_folder : d.folders (parent to) ≡ true

abbrev pub CanUnlink : Disk → Spot → Type 0
CanUnlink d at = IsFile d at

-- where a file can get another name, which may be that of a file that then has it no more
pub record CanRename (d : Disk) (from to : Spot) : Type 0 where
  pub source : IsFile d from
  pub target : IsFile d to ⊎ (d.now to ≡ none)
  pub no_folder : d.folders to ≡ false
  pub in_folder : d.folders (parent to) ≡ true

-- where something new can come
pub record CanPut (d : Disk) (at : Spot) : Type 0 where
  pub absent : d.now at ≡ none
  pub no_folder : d.folders at ≡ false
  pub in_folder : d.folders (parent at) ≡ true

abbrev pub CanMakeFolder : Disk → Spot → Type 0
CanMakeFolder d at = CanPut d at

-- a folder other than a root, empty, with nothing pending in it
pub record CanRemoveFolder (d : Disk) (at : Spot) : Type 0 where
  pub folder : d.folders at ≡ true
  pub not_root : at.names ≢ []
  -- nothing is there
  pub empty : (name : List ℕ) → kind_of d (below at name) ≡ Absent
  -- and nothing comes back after a stop
  pub settled : (name : List ℕ) → d.before (below at name) ≡ []
