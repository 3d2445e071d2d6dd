-- The mods below `stage`.
use Rattle.std.specs.Prelude.{ℕ, Bool, true, false, ◌&&◌, List, map, filter, is_none}
use Rattle.std.specs.List.{AllByRecursion, Contains}
use Rattle.std.specs.List.Sorted.{IsStrictlySortedBy}
use Rattle.std.specs.Ordering.{nat_cmp}
use Rattle.std.specs.Cmp.Lexicographic.{slice_cmp}
use Rattle.std.specs.Prelude.{◌≡◌}
use Rattle.rel_paths.specs.Names.{id_fault, IsModId}
use Rattle.tree_fs.specs.declared.name.Kind.{Kind}
use Rattle.tree_fs.specs.declared.name.Kind.TheVariants.{Absent, File, Folder, Other}
use Rattle.tree_fs.specs.declared.name.Entry.{Entry}
use Rattle.tree_fs.specs.declared.place.Root.TheVariants.{Stage}
use Rattle.tree_fs.specs.Spot.{Spot, root_spot}
use Rattle.tree_fs.specs.Places.{mod_spot}
use Rattle.tree_fs.specs.Disk.{Disk, kind_of}

-- the folders of `stage` whose names are mods' ids are the mods
pub record IsMod (d : Disk) (id : List ℕ) : Type 0 where
  pub named : IsModId id
  pub folder : kind_of d (mod_spot id) ≡ Folder

-- the mods, each once, in byte order
pub record ListsMods (d : Disk) (ids : List (List ℕ)) : Type 0 where
  pub order : IsStrictlySortedBy (slice_cmp nat_cmp) ids
  pub each : AllByRecursion (IsMod d) ids
  pub whole : (id : List ℕ) → IsMod d id → Contains ids id

abbrev pub stage_spot : Spot
stage_spot = root_spot Stage

abbrev pub is_folder_kind : Kind → Bool
is_folder_kind Folder = true
is_folder_kind Absent = false
is_folder_kind File = false
is_folder_kind Other = false

-- the names of the mods among the entries of `stage`
abbrev pub is_mod_entry : Entry → Bool
is_mod_entry e = is_folder_kind e.kind && is_none (id_fault e.name)

abbrev pub mod_names : List Entry → List (List ℕ)
mod_names entries = map (λ e. e.name) (filter is_mod_entry entries)
