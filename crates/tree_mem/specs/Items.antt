-- What lies at a path of one root.
use Rattle.std.specs.Prelude.{◌≡◌, ◌≢◌, ℕ, List, [], ◌∷◌}
use Rattle.std.specs.declared.option.Option.{Option}
use Rattle.std.specs.declared.option.Option.TheVariants.{None, Some}
use Rattle.std.specs.BTreeMap.{BTreeMap, get_by_text}
use Rattle.std.specs.Map.{lookup}
use Rattle.std.specs.Cmp.Lexicographic.{pointwise}
use Rattle.std.specs.Str.{bytes_eq}
use Rattle.std.specs.String.{string_bytes}
use Rattle.std.specs.declared.alloc.Global.{Global}
use Rattle.std.specs.declared.string.String.{String}
use Rattle.tree_fs.specs.Spot.{front_names}
use Rattle.tree_mem.specs.declared.entries.Item.{Item}
use Rattle.tree_mem.specs.declared.entries.Item.TheVariants.{Folder}
use Rattle.tree_mem.specs.declared.entries.Entries.{Entries}
use Rattle.tree_mem.specs.Keys.{folder_names, last_name}

-- the folders with entries, by the texts of their paths
abbrev pub Folders : Type 0
Folders = BTreeMap (String Global) Entries

-- what lies under a name, where the folder has entries
abbrev pub entry_in : Option Entries → List ℕ → Option Item
entry_in None name = None
entry_in (Some e) name = get_by_text e.items name

-- the entries of the folder with these names
abbrev pub entries_at : Folders → List (List ℕ) → Option Entries
entries_at fs names = lookup (λ k. pointwise bytes_eq names (folder_names (string_bytes k))) fs.entries

-- what lies at the path with these names; the root is a folder
abbrev pub item_in : Folders → List (List ℕ) → Option Item
item_in fs [] = Some Folder
item_in fs (n ∷ ns) = entry_in (entries_at fs (front_names (n ∷ ns))) (last_name (n ∷ ns))

-- e has the item at the path with these names, or nothing, and elsewhere what d has
pub record Sets (d e : Folders) (names : List (List ℕ)) (item : Option Item) : Type 0 where
  pub here : item_in e names ≡ item
  pub others : (other : List (List ℕ)) → other ≢ names → item_in e other ≡ item_in d other

abbrev pub SameItems : Folders → Folders → Type 0
SameItems d e = (names : List (List ℕ)) → item_in e names ≡ item_in d names
