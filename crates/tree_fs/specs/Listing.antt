-- What a listing of a folder says.
use Rattle.std.specs.Prelude.{◌≡◌, ◌≢◌, ℕ, List, map}
use Rattle.std.specs.List.{AllByRecursion, Contains}
use Rattle.std.specs.List.Sorted.{IsStrictlySortedBy}
use Rattle.std.specs.Ordering.{nat_cmp}
use Rattle.std.specs.Cmp.Lexicographic.{slice_cmp}
use Rattle.tree_fs.specs.declared.name.Entry.{Entry}
use Rattle.tree_fs.specs.declared.name.Kind.TheVariants.{Absent}
use Rattle.tree_fs.specs.EntryName.{IsName}
use Rattle.tree_fs.specs.Spot.{Spot, below}
use Rattle.tree_fs.specs.Disk.{Disk, kind_of}

abbrev pub entry_names : List Entry → List (List ℕ)
entry_names = map (λ e. e.name)

-- what a listing says of one entry
abbrev pub IsEntry : Disk → Spot → Entry → Type 0
IsEntry d folder e = IsName e.name × (e.kind ≡ kind_of d (below folder e.name)) × (e.kind ≢ Absent)

-- the entries of a folder, each with its kind, in byte order of the names
pub record IsListing (d : Disk) (folder : Spot) (entries : List Entry) : Type 0 where
  pub order : IsStrictlySortedBy (slice_cmp nat_cmp) (entry_names entries)
  pub each : AllByRecursion (IsEntry d folder) entries
  -- nothing else is there
  pub whole : (name : List ℕ) → kind_of d (below folder name) ≢ Absent → Contains (entry_names entries) name
