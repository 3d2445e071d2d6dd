-- An empty folder that was synced can be removed.
use Rattle.std.proofs.Common.{◌≡◌, ◌≢◌, ℕ, true, List, [], sym, ◌∙◌}
use Rattle.list_laws.proofs.Containing.{contains_none}
use Rattle.tree_fs.specs.declared.name.Kind.{Kind}
use Rattle.tree_fs.specs.declared.name.Kind.TheVariants.{Absent, File, Folder, Other}
use Rattle.tree_fs.specs.Calls.{CanRemoveFolder}
use Rattle.tree_fs.specs.Disk.{Disk, kind_of, synced}
use Rattle.tree_fs.specs.Listing.{IsListing}
use Rattle.tree_fs.specs.Spot.{Spot, below}
use Rattle.tree_fs.proofs.Disks.{before-synced_in}
use Rattle.tree_fs.proofs.Spots.{is_entry-below}

unlisted : (d : Disk) (q : Spot) (name : List ℕ) → IsListing d q [] → kind_of d (below q name) ≡ Absent
unlisted d q name is = by_kind (kind_of d (below q name)) refl_kind
  where
    refl_kind : kind_of d (below q name) ≡ kind_of d (below q name)
    refl_kind = λ i. kind_of d (below q name)

    by_kind : (k : Kind) → kind_of d (below q name) ≡ k → kind_of d (below q name) ≡ Absent
    by_kind Absent e = e
    by_kind File e = absurd (contains_none name (is.whole name (λ a. let no : File ≡ Absent = sym e ∙ a in cc)))
    by_kind Folder e = absurd (contains_none name (is.whole name (λ a. let no : Folder ≡ Absent = sym e ∙ a in cc)))
    by_kind Other e = absurd (contains_none name (is.whole name (λ a. let no : Other ≡ Absent = sym e ∙ a in cc)))

pub synced_empty : (d : Disk) (q : Spot) → d.folders q ≡ true → q.names ≢ [] → IsListing d q [] → CanRemoveFolder (synced d q) q
synced_empty d q folder below_root is = record {
  folder = folder;
  not_root = below_root;
  empty = λ name. unlisted d q name is;
  settled = λ name. before-synced_in d q (below q name) (is_entry-below q name);
}
