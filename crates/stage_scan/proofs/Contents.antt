-- What lies below an entry of a mod.
use Rattle.std.proofs.Common.{◌≡◌, ◌≢◌, ℕ, Bool, true, false, List, [], ◌∷◌, ◌++◌, reverse, refl, sym, ap, ◌∙◌, subst, append_assoc}
use Rattle.std.specs.List.{AllByRecursion}
use Rattle.std.proofs.lemmas.List.Sorted.{Contains-permutation, IsPermutation-reverse}
use Rattle.tree_fs.specs.declared.name.Kind.TheVariants as kind
use Rattle.tree_fs.specs.declared.name.Entry.{Entry}
use Rattle.tree_fs.specs.Spot.{Spot, parent, below}
use Rattle.tree_fs.specs.Disk.{Disk, Value, none, file, odd, IsValid, kind_of}
use Rattle.tree_fs.specs.Listing.{IsListing, IsEntry}
use Rattle.tree_fs.proofs.Spots.{parent-below}
use Rattle.tree_fs.proofs.KindOf.{folder-kind}
use Rattle.tree_fs.proofs.Disks.{now-in_folder}
use Rattle.list_laws.proofs.Alls.{all_every, all_map, all_weaken}
use Rattle.list_laws.proofs.Containing.{contains_map, map_contains}
use Rattle.stage_scan.specs.Walks.{inside, kind_inside, IsInside}
use Rattle.stage_scan.specs.Stack.{IsStacked, IsUnderSome}
use Rattle.stage_scan.proofs.Stacks.{content, content_stacked}
use Rattle.list_laws.proofs.Alls.{all_reverse}

-- what lies in a folder
pub over_is_folder : (d : Disk) (q : Spot) (n : List ℕ) → IsValid d → kind_of d (below q n) ≢ kind.Absent → d.folders q ≡ true
over_is_folder d q n valid there =
    subst (λ p. d.folders p ≡ true) (parent-below q n) (by_kind (d.folders (below q n)) (d.now (below q n)) refl refl)
  where
    by_kind : (b : Bool) (v : Value) → d.folders (below q n) ≡ b → d.now (below q n) ≡ v → d.folders (parent (below q n)) ≡ true
    by_kind true v e f = valid.nested (below q n) e
    by_kind false none e f = absurd (there (rw (e, f) refl))
    by_kind false (file k) e f = now-in_folder d (below q n) valid (λ g. let h : file k ≡ none = sym f ∙ g in cc)
    by_kind false odd e f = now-in_folder d (below q n) valid (λ g. let h : odd ≡ none = sym f ∙ g in cc)

pub folder_over : (d : Disk) (id : List ℕ) (x : List (List ℕ)) (n : List ℕ) (rest : List (List ℕ)) → IsValid d → kind_inside d id (x ++ n ∷ rest) ≢ kind.Absent → d.folders (inside id x) ≡ true
folder_over d id x n [] valid there = over_is_folder d (inside id x) n valid there
folder_over d id x n (m ∷ rest) valid there =
    let e : (x ++ n ∷ []) ++ m ∷ rest ≡ x ++ n ∷ m ∷ rest = append_assoc x (n ∷ []) (m ∷ rest) in
    let up = folder_over d id (x ++ n ∷ []) m rest valid (subst (λ l. kind_inside d id l ≢ kind.Absent) (sym e) there) in
    over_is_folder d (inside id x) n valid (λ gone. let h : kind.Folder ≡ kind.Absent = sym (folder-kind d (inside id (x ++ n ∷ [])) up) ∙ gone in cc)

-- so does what stands over something
pub there_over : (d : Disk) (id : List ℕ) (x : List (List ℕ)) (n : List ℕ) (rest : List (List ℕ)) → IsValid d → kind_inside d id (x ++ n ∷ rest) ≢ kind.Absent → kind_inside d id (x ++ n ∷ []) ≢ kind.Absent
there_over d id x n [] valid there = there
there_over d id x n (m ∷ rest) valid there =
    let e : (x ++ n ∷ []) ++ m ∷ rest ≡ x ++ n ∷ m ∷ rest = append_assoc x (n ∷ []) (m ∷ rest) in
    let up = folder_over d id (x ++ n ∷ []) m rest valid (subst (λ l. kind_inside d id l ≢ kind.Absent) (sym e) there) in
    λ gone. let h : kind.Folder ≡ kind.Absent = sym (folder-kind d (inside id (x ++ n ∷ [])) up) ∙ gone in cc

abbrev pub IsNext : List (List ℕ) → List (List ℕ) → Type 0
IsNext x c = (n : List ℕ) × (c ≡ x ++ n ∷ [])

-- these are the entries of what has these names, with what lies below them
pub record IsContent (d : Disk) (id : List ℕ) (x : List (List ℕ)) (cs : List (List (List ℕ))) : Type 0 where
  pub stacked : IsStacked cs
  pub next : AllByRecursion (IsNext x) cs
  pub there : AllByRecursion (IsInside d id) cs
  pub cover : (n : List ℕ) (rest : List (List ℕ)) → IsInside d id (x ++ n ∷ rest) → IsUnderSome cs (x ++ n ∷ rest)

pub not_empty : (x : List (List ℕ)) (n : List ℕ) (rest : List (List ℕ)) → x ++ n ∷ rest ≢ []
not_empty [] n rest e = cc
not_empty (y ∷ x) n rest e = cc

pub no_content : (d : Disk) (id : List ℕ) (x : List (List ℕ)) → IsValid d → kind_inside d id x ≢ kind.Folder → IsContent d id x []
no_content d id x valid ne = record {
  stacked = tt;
  next = tt;
  there = tt;
  cover = λ n rest is. absurd (ne (folder-kind d (inside id x) (folder_over d id x n rest valid is.there)));
}

pub folder_content : (d : Disk) (id : List ℕ) (x : List (List ℕ)) (es : List Entry) → IsValid d → IsListing d (inside id x) es → IsContent d id x (content x es)
folder_content d id x es valid listing = record {
  stacked = content_stacked x es listing.order;
  next = all_map (IsNext x) at (reverse es) (all_every (λ (e : Entry). IsNext x (at e)) (reverse es) (λ e. (e.name, refl)));
  there = all_map (IsInside d id) at (reverse es) (all_reverse (λ (e : Entry). IsInside d id (at e)) es (all_weaken (IsEntry d (inside id x)) (λ (e : Entry). IsInside d id (at e)) es
      (λ e is. record { some = not_empty x e.name []; there = λ gone. is.2 (is.1 ∙ gone) }) listing.each));
  cover = λ n rest is.
      let found = contains_map (λ (e : Entry). e.name) es n (listing.whole n (there_over d id x n rest valid is.there)) in
      record {
        over = at found.0;
        is_one = map_contains at (reverse es) found.0 (Contains-permutation es (reverse es) found.0 (IsPermutation-reverse es) found.1);
        rest = rest;
        split = ap (λ m. x ++ m ∷ rest) (sym found.2) ∙ sym (append_assoc x (found.0.name ∷ []) rest);
      };
}
  where
    at : Entry → List (List ℕ)
    at = λ e. x ++ e.name ∷ []
