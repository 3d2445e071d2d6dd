-- What places held, by the place.
use Rattle.std.specs.Prelude.{◌≡◌, ◌≢◌, ◌⊎◌, ℕ, Bool, true, false, if◌then◌else◌, List, [], ◌∷◌, ◌++◌}
use Rattle.std.specs.BTreeMap.{BTreeMap, get}
use Rattle.std.specs.Cmp.Lexicographic.{slice_cmp}
use Rattle.std.specs.Ordering.{on, nat_cmp}
use Rattle.std.specs.declared.alloc.Global.{Global}
use Rattle.std.specs.declared.cmp.Ordering.{Ordering}
use Rattle.std.specs.declared.option.Option.{Option}
use Rattle.std.specs.declared.option.Option.TheVariants.{None, Some}
use Rattle.std.specs.declared.vec.Vec.{Vec}
use Rattle.tree_fs.specs.declared.place.Place.{Place}
use Rattle.tree_fs.specs.Texts.{place_text}
use Rattle.tree_fs.specs.Spot.{Spot, spot_of, spot_eq}
use Rattle.tree_mem.specs.declared.entries.Item.{Item}
use Rattle.tree_mem.specs.declared.entries.Item.TheVariants.{Folder, File}
use Rattle.tree_mem.specs.declared.disk.MemDisk.{MemDisk}
use Rattle.tree_mem.specs.declared.disk.Past.{Past}
use Rattle.tree_mem.specs.Disks.{item_of, is_folder}

-- the number of the file that an item is, if it is one
abbrev pub number_in : Option Item → Option ℕ
number_in (Some Folder) = None
number_in (Some (File n)) = Some n
number_in None = None

-- what stands at a place that holds this file, or none
abbrev pub item_with : Option ℕ → Option Item
item_with None = None
item_with (Some n) = Some (File n)

-- the files that a place held, oldest first
abbrev pub held_files : List Past → Spot → List (Option ℕ)
held_files [] q = []
held_files (p ∷ past) q = if spot_eq q (spot_of p.at) then number_in p.item ∷ held_files past q else held_files past q

-- the files that places held, by the place
abbrev pub Groups : Type 0
Groups = BTreeMap Place (Vec (Option ℕ) Global)

-- the order of the texts of places
abbrev pub by_text : Place → Place → Ordering
by_text = on place_text (slice_cmp nat_cmp)

-- what is grouped at a place
abbrev pub group_items : Option (Vec (Option ℕ) Global) → List (Option ℕ)
group_items None = []
group_items (Some v) = v.items

-- n has one file more at the place, and elsewhere what m has
pub record GroupGrown (m n : Groups) (at : Place) (number : Option ℕ) : Type 0 where
  pub here : (p : Place) → p ≡ at → (v : Vec (Option ℕ) Global) × (get by_text n p ≡ Some v) × (v.items ≡ group_items (get by_text m p) ++ number ∷ [])
  pub others : (p : Place) → p ≢ at → get by_text n p ≡ get by_text m p

-- what is grouped at a place that held this, unless it is a folder or nothing is pending there
abbrev pub IsGroup : Bool → List (Option ℕ) → Option (Vec (Option ℕ) Global) → Type 0
IsGroup folder files None = (folder ≡ true) ⊎ (files ≡ [])
IsGroup folder files (Some v) = (folder ≡ false) × (files ≢ []) × (v.items ≡ files)

-- the groups are those of the places where this was pending, without folders
abbrev pub IsGrouped : MemDisk → List Past → Groups → Type 0
IsGrouped d past m = (p : Place) → IsGroup (is_folder (item_of d (spot_of p))) (held_files past (spot_of p)) (get by_text m p)
