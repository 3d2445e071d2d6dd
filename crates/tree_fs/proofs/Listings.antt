-- What a listing of a folder tells.
use Rattle.std.proofs.Common.{◌≡◌, ◌≢◌, ℕ, ◌<◌, List, [], ◌∷◌, length, get_or, sym, ap, ◌∙◌}
use Rattle.std.specs.List.{AllByRecursion, Contains}
use Rattle.tree_fs.specs.declared.name.Entry.{Entry}
use Rattle.tree_fs.specs.declared.name.Kind.{Kind}
use Rattle.tree_fs.specs.declared.name.Kind.TheVariants.{Absent}
use Rattle.tree_fs.specs.Spot.{Spot, below}
use Rattle.tree_fs.specs.Disk.{Disk, kind_of}
use Rattle.tree_fs.specs.Listing.{entry_names, IsEntry, IsListing}
use Rattle.list_laws.proofs.Alls.{all_item, all_this}
use Rattle.list_laws.proofs.Containing.{contains_map}

-- each item is an entry of the folder
pub listed_item : (d : Disk) (folder : Spot) (entries : List Entry) (e : Entry) → IsListing d folder entries → Contains entries e → IsEntry d folder e
listed_item d folder entries e is c = all_item (IsEntry d folder) entries e is.each c

-- a loop's item is one
pub listed_this : (d : Disk) (folder : Spot) (entries : List Entry) (i : ℕ) (e : Entry) → IsListing d folder entries → i < length entries → e ≡ get_or entries i e → IsEntry d folder e
listed_this d folder entries i e is lt at = all_this (IsEntry d folder) entries i e lt at is.each

-- what is there has an item
pub listed_name : (d : Disk) (folder : Spot) (entries : List Entry) (name : List ℕ) → IsListing d folder entries → kind_of d (below folder name) ≢ Absent
    → (e : Entry) × Contains entries e × (e.name ≡ name) × (e.kind ≡ kind_of d (below folder name))
listed_name d folder entries name is there =
    let found = contains_map (λ (e : Entry). e.name) entries name (is.whole name there) in
    let entry = listed_item d folder entries found.0 is found.1 in
    (found.0, found.1, found.2, entry.1 ∙ ap (λ n. kind_of d (below folder n)) found.2)

-- a name that has no item has nothing
pub unlisted_name : (d : Disk) (folder : Spot) (entries : List Entry) (name : List ℕ) (k : Kind) → IsListing d folder entries → kind_of d (below folder name) ≡ k → k ≢ Absent → (Contains (entry_names entries) name → ⊥) → ⊥
unlisted_name d folder entries name k is e ne gone = gone (is.whole name (λ absent. ne (sym e ∙ absent)))

-- a folder whose entries are of the same kinds has the same listing
pub same_listing : (d e : Disk) (folder : Spot) (entries : List Entry) → ((name : List ℕ) → kind_of e (below folder name) ≡ kind_of d (below folder name)) → IsListing d folder entries → IsListing e folder entries
same_listing d e folder entries same is = record {
  order = is.order;
  each = each_same entries is.each;
  whole = λ name there. is.whole name (λ absent. there (same name ∙ absent));
}
  where
    each_same : (es : List Entry) → AllByRecursion (IsEntry d folder) es → AllByRecursion (IsEntry e folder) es
    each_same [] a = tt
    each_same (x ∷ xs) a = ((a.0.0, a.0.1 ∙ sym (same x.name), a.0.2), each_same xs a.1)
