-- The entries of a folder, listed.
use Rattle.std.proofs.Common.{◌≡◌, ◌≢◌, ℕ, suc, cond, List, [], ◌∷◌, ◌++◌, map, refl, sym, ap, subst, ◌∙◌, arith}
use Prim.Native.Nat.{zero}
use Rattle.std.specs.List.{AllByRecursion, Contains, slice_get, list_all}
use Rattle.std.specs.List.Sorted.{IsStrictlySortedBy}
use Rattle.std.specs.BTreeMap.{BTreeMap, IsOrdered, get_by_text, is_at}
use Rattle.std.specs.Map.{keys_of}
use Rattle.std.specs.Cmp.Lexicographic.{slice_cmp}
use Rattle.std.specs.Ordering.{nat_cmp}
use Rattle.std.specs.String.{string_bytes, string_cmp, string_cmp_total}
use Rattle.std.specs.declared.alloc.Global.{Global}
use Rattle.std.specs.declared.cmp.Ordering.TheVariants.{Less}
use Rattle.std.specs.declared.option.Option.{Option}
use Rattle.std.specs.declared.option.Option.TheVariants.{None, Some}
use Rattle.std.specs.declared.string.String.{String}
use Rattle.std.proofs.lemmas.Map.Entries.{btree_map_get_place, place_from_lookup}
use Rattle.std.proofs.lemmas.Map.Text.{is_eq-slice_cmp}
use Rattle.std.proofs.lemmas.Slice.Eq.{bytes_eq-Decides}
use Rattle.tree_fs.specs.declared.name.Entry.{Entry}
use Rattle.tree_fs.specs.declared.name.Kind.{Kind}
use Rattle.tree_fs.specs.declared.name.Kind.TheVariants as kind
use Rattle.tree_fs.specs.EntryName.{IsName, is_entry_name}
use Rattle.tree_fs.specs.Spot.{Spot, below}
use Rattle.tree_fs.specs.Disk.{kind_of, kind_at}
use Rattle.tree_fs.specs.Listing.{IsListing, IsEntry, entry_names}
use Rattle.tree_mem.specs.declared.entries.Item.{Item}
use Rattle.tree_mem.specs.declared.entries.Item.TheVariants.{Folder, File}
use Rattle.tree_mem.specs.declared.entries.Entries.{Entries}
use Rattle.tree_mem.specs.declared.disk.MemDisk.{MemDisk}
use Rattle.tree_mem.specs.Keys.{folder_names, AreNames}
use Rattle.tree_mem.specs.Kinds.{item_kind, entry_of}
use Rattle.tree_mem.specs.Items.{entry_in, item_in}
use Rattle.tree_mem.specs.Disks.{folders_of, item_of, is_folder, value_in, disk_in}
use Rattle.tree_mem.proofs.Names.{both}
use Rattle.tree_mem.proofs.Paths.{item_in-folder}

abbrev kind_in : Option Item → Kind
kind_in None = kind.Absent
kind_in (Some item) = item_kind item

same_kind : (o : Option Item) → cond (is_folder o) kind.Folder (kind_at (value_in o)) ≡ kind_in o
same_kind None = refl
same_kind (Some Folder) = refl
same_kind (Some (File n)) = refl

not_absent : (item : Item) → item_kind item ≢ kind.Absent
not_absent Folder e = cc
not_absent (File n) e = cc

-- the kind below a folder is that of its entries
kind_below : (d : MemDisk) (folder : Spot) (f : List ℕ) (o : Option Entries) (name : List ℕ) → folder_names f ≡ folder.names → o ≡ get_by_text (folders_of d folder.root) f
    → kind_of (disk_in d) (below folder name) ≡ kind_in (entry_in o name)
kind_below d folder f o name names had =
    same_kind (item_of d (below folder name))
    ∙ ap kind_in (ap (λ l. item_in (folders_of d folder.root) (l ++ name ∷ [])) (sym names) ∙ item_in-folder (folders_of d folder.root) f name ∙ ap (λ e. entry_in e name) (sym had))

pub listing_none : (d : MemDisk) (folder : Spot) (f : List ℕ) → folder_names f ≡ folder.names → None ≡ get_by_text (folders_of d folder.root) f → IsListing (disk_in d) folder []
unfolding IsStrictlySortedBy
listing_none d folder f names had = record { order = tt; each = tt; whole = λ name ne. absurd (ne (kind_below d folder f None name names had)) }

-- the names ascend as the keys do
names_below : (x : String Global) (es : List (String Global × Item)) → AllByRecursion (λ y. string_cmp x y ≡ Less) (keys_of es) → AllByRecursion (λ y. slice_cmp nat_cmp (string_bytes x) y ≡ Less) (entry_names (map entry_of es))
names_below x [] h = tt
names_below x (e ∷ es) h = (h.0, names_below x es h.1)

names_sorted : (es : List (String Global × Item)) → IsStrictlySortedBy string_cmp (keys_of es) → IsStrictlySortedBy (slice_cmp nat_cmp) (entry_names (map entry_of es))
unfolding IsStrictlySortedBy
names_sorted [] h = tt
names_sorted (e ∷ es) h = (names_below e.0 es h.0, names_sorted es h.1)

-- what holds of each entry
each_entry : (P : Entry → Type 0) (es : List (String Global × Item)) → AreNames es → ((i : ℕ) (k : String Global) (v : Item) → slice_get es i ≡ Some (k, v) → IsName (string_bytes k) → P (entry_of (k, v))) → AllByRecursion P (map entry_of es)
each_entry P [] names h = tt
each_entry P (e ∷ es) names h =
    let parts = both (is_entry_name (string_bytes e.0)) (list_all (λ f. is_entry_name (string_bytes f.0)) es) names in
    (h zero e.0 e.1 refl parts.0, each_entry P es parts.1 (λ i k v at name. h (suc i) k v at name))

-- a key's name is among the names
name_there : (es : List (String Global × Item)) (i : ℕ) (k : String Global) (v : Item) → slice_get es i ≡ Some (k, v) → Contains (entry_names (map entry_of es)) (string_bytes k)
name_there [] i k v e = let none : ⊥ = cc in absurd none
name_there (x ∷ es) zero k v e = (zero, omega arith, ap string_bytes (let h : x ≡ (k, v) = cc in ap (λ p. p.0) h))
name_there (x ∷ es) (suc i) k v e = let h = name_there es i k v e in (suc h.0, omega (arith, h.1), h.2)

-- a name that is found is that of a key
record HasKey (es : List (String Global × Item)) (name : List ℕ) : Type 0 where
  place : ℕ
  key : String Global
  value : Item
  there : slice_get es place ≡ Some (key, value)
  is : name ≡ string_bytes key

found_key : (m : BTreeMap (String Global) Item) (name : List ℕ) → get_by_text m name ≢ None → HasKey m.entries name
found_key m name ne = by_value (get_by_text m name) refl
  where
    by_value : (o : Option Item) → get_by_text m name ≡ o → HasKey m.entries name
    by_value None e = absurd (ne e)
    by_value (Some v) e =
        let at = place_from_lookup (is_at (λ k. slice_cmp nat_cmp name (string_bytes k))) m.entries v e in
        record { place = at.0; key = at.1; value = v; there = at.2; is = (bytes_eq-Decides name (string_bytes at.1)).0 (sym (is_eq-slice_cmp name (string_bytes at.1)) ∙ at.3) }

pub listing_some : (d : MemDisk) (folder : Spot) (f : List ℕ) (e : Entries) (listed : List Entry) → folder_names f ≡ folder.names → Some e ≡ get_by_text (folders_of d folder.root) f
    → IsOrdered string_cmp e.items → listed ≡ map entry_of e.items.entries → IsListing (disk_in d) folder listed
listing_some d folder f e listed names had ordered is = subst (IsListing (disk_in d) folder) (sym is) record {
  order = names_sorted e.items.entries ordered;
  each = each_entry (IsEntry (disk_in d) folder) e.items.entries e.named (λ i k v at name.
      let there : kind_of (disk_in d) (below folder (string_bytes k)) ≡ item_kind v =
      kind_below d folder f (Some e) (string_bytes k) names had ∙ ap kind_in (btree_map_get_place string_cmp_total e.items i k v ordered at) in
      (name, sym there, not_absent v));
  whole = λ name ne.
      let at = found_key e.items name (λ none. ne (kind_below d folder f (Some e) name names had ∙ ap kind_in none)) in
      subst (Contains (entry_names (map entry_of e.items.entries))) (sym at.is) (name_there e.items.entries at.place at.key at.value at.there);
}
