-- Which sources of one mod lie in each other's way, and how that is looked up.
use Rattle.std.specs.Prelude.{◌≡◌, ℕ, zero, suc, ◌==◌, Bool, false, ◌&&◌, ◌||◌, List, [], ◌∷◌, length, take, slice_index}
use Rattle.std.specs.List.{list_any}
use Rattle.std.specs.Str.{bytes_eq}
use Rattle.std.specs.Borrow.{Bor}
use Rattle.std.specs.BTreeSet.{BTreeSet}
use Rattle.manifest_json.specs.declared.manifest.Row.{Row}
use Rattle.manifest_json.specs.declared.sources.Sources.{Sources}
use Rattle.rel_paths.specs.Names.{extends}

-- whether the other row is of the same mod and has an equal source, or one that extends this row's,
-- or one that this row's extends
abbrev pub meets : Row → Row → Bool
meets r other =
    bytes_eq other.mod_id r.mod_id
    && (bytes_eq other.source r.source || (extends other.source r.source || extends r.source other.source))

-- the rows, last one first: none meets one behind it
abbrev pub AreUnmet : List Row → Type 0
AreUnmet [] = Unit {0}
AreUnmet (r ∷ rs) = (list_any (meets r) rs ≡ false) × AreUnmet rs

-- ---- the look-up

abbrev pub is_pair : List ℕ → List ℕ → List ℕ → List ℕ → Bool
is_pair id path m p = bytes_eq id m && bytes_eq path p

-- whether the set has this path of this mod
abbrev pub has : BTreeSet (Bor (List ℕ) × Bor (List ℕ)) → List ℕ → List ℕ → Bool
has set m p = list_any (λ k. is_pair k.0.now k.1.now m p) set.keys

-- whether the test passes for a number below n
abbrev pub any_below : ℕ → (ℕ → Bool) → Bool
any_below zero test = false
any_below (suc n) test = test n || any_below n test

-- whether a slash stands at byte i of the path, behind the text of the folder
abbrev pub ends_folder : List ℕ → List ℕ → ℕ → Bool
ends_folder path folder i = (slice_index path i == 47) && bytes_eq (take i path) folder

-- whether the set has a folder of this mod that the path lies in
abbrev pub is_below_one : BTreeSet (Bor (List ℕ) × Bor (List ℕ)) → List ℕ → List ℕ → Bool
is_below_one set id path = any_below (length path) (λ i. (slice_index path i == 47) && has set id (take i path))

abbrev pub is_met : Sources → List ℕ → List ℕ → Bool
is_met sources id source =
    has sources.taken id source || (has sources.folders id source || is_below_one sources.taken id source)

-- the folders that end below byte n of the path are in the set besides those that were
abbrev pub HasFolders : List ℕ → List ℕ → ℕ → BTreeSet (Bor (List ℕ) × Bor (List ℕ)) → BTreeSet (Bor (List ℕ) × Bor (List ℕ)) → Type 0
HasFolders id path n old new =
    (m p : List ℕ) → has new m p ≡ ((bytes_eq id m && any_below n (ends_folder path p)) || has old m p)

pub record HasAdded (id source : List ℕ) (old new : Sources) : Type 0 where
  pub taken : (m p : List ℕ) → has new.taken m p ≡ (is_pair id source m p || has old.taken m p)
  pub folders : HasFolders id source (length source) old.folders new.folders

-- the sources of these rows, and the folders that they lie in
pub record IsTold (rows : List Row) (sources : Sources) : Type 0 where
  pub taken : (m p : List ℕ) → has sources.taken m p ≡ list_any (λ r. is_pair r.mod_id r.source m p) rows
  pub folders : (m p : List ℕ) → has sources.folders m p ≡ list_any (λ r. bytes_eq r.mod_id m && extends r.source p) rows
