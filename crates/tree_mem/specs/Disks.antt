-- The disk that maps and lists are.
use Rattle.std.specs.Prelude.{◌≡◌, ◌≢◌, ℕ, Bool, true, false, if◌then◌else◌, List, [], ◌∷◌, slice_index_or, length}
use Rattle.std.specs.List.{fold}
use Rattle.std.specs.declared.option.Option.{Option}
use Rattle.std.specs.declared.option.Option.TheVariants.{None, Some}
use Rattle.tree_fs.specs.declared.place.Root.{Root}
use Rattle.tree_fs.specs.declared.place.Root.TheVariants.{Stage, Game, Keep}
use Rattle.tree_fs.specs.Spot.{Spot, spot_of, spot_eq}
use Rattle.tree_fs.specs.Disk.{Disk, Value, none, file}
use Rattle.tree_mem.specs.declared.entries.Item.{Item}
use Rattle.tree_mem.specs.declared.entries.Item.TheVariants.{Folder, File}
use Rattle.tree_mem.specs.declared.disk.MemDisk.{MemDisk}
use Rattle.tree_mem.specs.declared.disk.Past.{Past}
use Rattle.tree_mem.specs.FileData.{FileData}
use Rattle.tree_mem.specs.Items.{Folders, item_in}

abbrev pub folders_of : MemDisk → Root → Folders
folders_of d Stage = d.stage
folders_of d Game = d.game
folders_of d Keep = d.keep

-- what lies at a place
abbrev pub item_of : MemDisk → Spot → Option Item
item_of d q = item_in (folders_of d q.root) q.names

abbrev pub is_folder : Option Item → Bool
is_folder (Some Folder) = true
is_folder (Some (File n)) = false
is_folder None = false

abbrev pub value_in : Option Item → Value
value_in (Some Folder) = none
value_in (Some (File n)) = file n
value_in None = none

-- what a place held before, of a list with the newest at its end
abbrev pub held_before : List Past → Spot → List Value
held_before past q = fold (λ held p. if spot_eq q (spot_of p.at) then value_in p.item ∷ held else held) [] past

-- the file with this number; beyond the last one no bytes, which stay
abbrev pub file_at : List FileData → ℕ → FileData
file_at files n = slice_index_or files n (record { bytes = []; firm = true })

-- the disk that these maps and lists are
abbrev pub disk_in : MemDisk → Disk
disk_in d = record {
  folders = λ q. is_folder (item_of d q);
  now = λ q. value_in (item_of d q);
  before = held_before d.pending.items;
  bytes = λ n. (file_at d.files.items n).bytes;
  firm = λ n. (file_at d.files.items n).firm;
  fresh = length d.files.items;
}

-- e has the item at the place, or nothing, and else what d has
pub record ItemSet (d e : MemDisk) (at : Spot) (item : Option Item) : Type 0 where
  pub here : item_of e at ≡ item
  pub others : (q : Spot) → q ≢ at → item_of e q ≡ item_of d q
  pub files : e.files.items ≡ d.files.items
  pub pending : e.pending.items ≡ d.pending.items

-- e has what d has
pub record SameParts (d e : MemDisk) : Type 0 where
  pub items : (q : Spot) → item_of e q ≡ item_of d q
  pub files : e.files.items ≡ d.files.items
  pub pending : e.pending.items ≡ d.pending.items
