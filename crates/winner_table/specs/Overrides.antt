-- The override of a path, by its index and by its mod.
use Rattle.std.specs.Prelude.{◌≡◌, ℕ, List, slice_get}
use Rattle.std.specs.List.{Contains}
use Rattle.std.specs.declared.option.Option.{Option}
use Rattle.std.specs.declared.option.Option.TheVariants.{None, Some}
use Rattle.profile_toml.specs.Records.{OverrideData}

-- no override is at the path
abbrev pub HasNone : List OverrideData → List ℕ → Type 0
HasNone overrides path = (entry : OverrideData) → Contains overrides entry → entry.path ≡ path → ⊥

-- an override that is at the path and gives it to this mod
pub record IsEntryAt (overrides : List OverrideData) (path id : List ℕ) : Type 0 where
  pub entry : OverrideData
  pub among : Contains overrides entry
  pub at : entry.path ≡ path
  pub to : entry.mod_id ≡ id

pub record IsEntryWith (overrides : List OverrideData) (path : List ℕ) (index : ℕ) : Type 0 where
  pub entry : OverrideData
  pub is : slice_get overrides index ≡ Some entry
  pub at : entry.path ≡ path

-- the override with this index gives its path to this mod
pub record IsModAt (overrides : List OverrideData) (index : ℕ) (id : List ℕ) : Type 0 where
  pub entry : OverrideData
  pub is : slice_get overrides index ≡ Some entry
  pub to : entry.mod_id ≡ id

-- the index of an override at the path, or none where there is none
abbrev pub IsIndexAt : List OverrideData → List ℕ → Option ℕ → Type 0
IsIndexAt overrides path None = HasNone overrides path
IsIndexAt overrides path (Some index) = IsEntryWith overrides path index

-- the mod of an override at the path, or none where there is none
abbrev pub IsIdAt : List OverrideData → List ℕ → Option (List ℕ) → Type 0
IsIdAt overrides path None = HasNone overrides path
IsIdAt overrides path (Some id) = IsEntryAt overrides path id
