-- How a count goes on, folder by folder.
use Rattle.std.proofs.Common.{◌≡◌, ℕ, ◌+◌, List, [], ◌∷◌, ◌++◌, map, arith, refl, sym, ap, ◌∙◌, subst}
use Rattle.std.specs.List.{AllByRecursion, flat_map}
use Rattle.std.proofs.lemmas.List.{map-append}
use Rattle.list_laws.proofs.Alls.{all_append, all_left, all_last}
use Rattle.tree_fs.specs.declared.name.Entry.{Entry}
use Rattle.tree_fs.specs.declared.name.Kind.{Kind}
use Rattle.tree_fs.specs.declared.name.Kind.TheVariants.{Absent, File, Folder, Other}
use Rattle.tree_fs.specs.declared.place.Place.{Place}
use Rattle.tree_fs.specs.Calls.{IsFolder}
use Rattle.tree_fs.specs.Disk.{Disk, kind_of}
use Rattle.tree_fs.specs.Listing.{IsEntry, IsListing}
use Rattle.tree_fs.specs.Spot.{Spot, spot_of, below}
use Rattle.tree_fs.proofs.KindOf.{kind-folder}
use Rattle.tour_counts.specs.Files.{HasFiles, none, listed, files_among, folder_of, folder_in, folders_among}

-- one place more
pub one_place : (old new : List Place) (place : Place) (folder : Spot) (name : List ℕ) (kind : Kind) → new ≡ old ++ place ∷ [] → spot_of place ≡ below folder name → kind ≡ Folder → map spot_of new ≡ map spot_of old ++ folder_of folder name kind
one_place old new place folder name kind pushed is is_folder = rw is_folder (ap (map spot_of) pushed ∙ map-append spot_of old (place ∷ []) ∙ ap (λ q. map spot_of old ++ q ∷ []) is)

folder_is : (d : Disk) (folder : Spot) (name : List ℕ) (kind : Kind) → kind ≡ kind_of d (below folder name) → AllByRecursion (IsFolder d) (folder_of folder name kind)
folder_is d folder name Folder is = (kind-folder d (below folder name) (sym is), tt)
folder_is d folder name Absent is = tt
folder_is d folder name File is = tt
folder_is d folder name Other is = tt

folders_are : (d : Disk) (folder : Spot) (entries : List Entry) → AllByRecursion (IsEntry d folder) entries → AllByRecursion (IsFolder d) (folders_among folder entries)
folders_are d folder [] each = tt
folders_are d folder (e ∷ es) each = all_append (IsFolder d) (folder_in folder e) (folders_among folder es) (folder_is d folder e.name e.kind each.0.1) (folders_are d folder es each.1)

-- the folders that are still to be listed are folders
pub still_folders : (d : Disk) (rest : List Spot) (folder : Spot) (entries : List Entry) (now : List Spot) → AllByRecursion (IsFolder d) (rest ++ folder ∷ []) → IsListing d folder entries → now ≡ rest ++ folders_among folder entries → AllByRecursion (IsFolder d) now
still_folders d rest folder entries now all listing is =
    subst (AllByRecursion (IsFolder d)) (sym is) (all_append (IsFolder d) rest (folders_among folder entries) (all_left (IsFolder d) rest (folder ∷ []) all) (folders_are d folder entries listing.each))

-- what is counted and what is still to be counted are all
abbrev pub GoesOn : Disk → List Spot → List Spot → ℕ → Type 0
GoesOn d all ahead count = (n : ℕ) → HasFiles d ahead n → HasFiles d all (count + n)

pub goes_on : (d : Disk) (all rest : List Spot) (folder : Spot) (entries : List Entry) (now : List Spot) (count more : ℕ) → GoesOn d all (rest ++ folder ∷ []) count → IsListing d folder entries → now ≡ rest ++ folders_among folder entries → more ≡ count + files_among entries → GoesOn d all now more
goes_on d all rest folder entries now count more so_far listing is sum = λ n has.
    let there = so_far (files_among entries + n) (listed rest folder entries n listing (subst (λ l. HasFiles d l n) is has)) in
    let same : count + (files_among entries + n) ≡ more + n = omega (arith, sum) in
    subst (HasFiles d all) same there

pub all_counted : (d : Disk) (all ahead : List Spot) (count : ℕ) → ahead ≡ [] → GoesOn d all ahead count → HasFiles d all count
all_counted d all ahead count no_more so_far =
    let same : count + 0 ≡ count = omega arith in
    subst (HasFiles d all) same (so_far 0 (subst (λ l. HasFiles d l 0) (sym no_more) none))

-- The places of a list, of which one is taken off its end

pub one_last : (all rest : List Place) (folder : Place) → all ≡ rest ++ folder ∷ [] → map spot_of all ≡ map spot_of rest ++ spot_of folder ∷ []
one_last all rest folder is = ap (map spot_of) is ∙ map-append spot_of rest (folder ∷ [])

pub last_folder : (d : Disk) (all rest : List Place) (folder : Place) → all ≡ rest ++ folder ∷ [] → AllByRecursion (IsFolder d) (map spot_of all) → IsFolder d (spot_of folder)
last_folder d all rest folder is folders = all_last (IsFolder d) (map spot_of rest) (spot_of folder) (subst (AllByRecursion (IsFolder d)) (one_last all rest folder is) folders)
