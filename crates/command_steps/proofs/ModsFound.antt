-- From the listing of `stage` to its mods.
use Rattle.std.proofs.Common.{◌≡◌, ℕ, Bool, true, false, ◌&&◌, List, [], ◌∷◌, sym, refl, subst, ap, ◌∙◌}
use Rattle.std.specs.Prelude.{is_none, nat_eq}
use Rattle.std.specs.List.{Contains, IsDistinct}
use Rattle.std.specs.List.Sorted.{IsStrictlySortedBy}
use Rattle.std.specs.Ordering.{nat_cmp}
use Rattle.std.specs.Str.{bytes_eq}
use Rattle.std.specs.Cmp.Lexicographic.{pointwise, slice_cmp}
use Rattle.std.specs.declared.cmp.Ordering.TheVariants.{Less}
use Rattle.std.specs.declared.option.Option.{Option}
use Rattle.std.specs.declared.option.Option.TheVariants.{None, Some}
use Rattle.rel_paths.specs.Names.{id_fault}
use Rattle.tree_fs.specs.declared.name.Kind.{Kind}
use Rattle.tree_fs.specs.declared.name.Kind.TheVariants.{Absent, File, Folder, Other}
use Rattle.tree_fs.specs.declared.name.Entry.{Entry}
use Rattle.tree_fs.specs.Disk.{Disk, kind_of}
use Rattle.tree_fs.specs.Listing.{IsListing}
use Rattle.tree_fs.proofs.Listings.{listed_item}
use Rattle.list_laws.proofs.Alls.{all_from_contains, all_weaken}
use Rattle.list_laws.proofs.Orders.{text_less-apart}
use Rattle.list_laws.proofs.Texts.{bytes_eq-apart}
use Rattle.list_laws.proofs.Containing.{contains_map, map_contains, filter_contains, contains_filter}
use Rattle.stage_scan.specs.Files.{AreInPathOrder, HasSamePaths}
use Rattle.command_steps.specs.Mods.{IsMod, ListsMods, is_folder_kind, is_mod_entry, mod_names, stage_spot}

is_folder : (k : Kind) → is_folder_kind k ≡ true → k ≡ Folder
is_folder Folder e = refl
is_folder Absent e = cc
is_folder File e = cc
is_folder Other e = cc

no_fault : {X : Type 0} (o : Option X) → is_none o ≡ true → o ≡ None
no_fault None e = refl
no_fault (Some x) e = cc

both_true : (a b : Bool) → (a && b) ≡ true → (a ≡ true) × (b ≡ true)
both_true true b h = (refl, h)
both_true false b h = absurd (cc)

module _ (d : Disk) (es : List Entry) (listing : IsListing d stage_spot es) where
  mod_named : (id : List ℕ) → Contains (mod_names es) id → IsMod d id
  mod_named id there =
      let among = contains_map (λ (e : Entry). e.name) _ id there in
      let found = contains_filter is_mod_entry es among.0 among.1 in
      let tests = both_true (is_folder_kind among.0.kind) (is_none (id_fault among.0.name)) found.1 in
      let entry = listed_item d stage_spot es among.0 listing found.0 in
      subst (IsMod d) among.2 (record { named = no_fault (id_fault among.0.name) tests.1; folder = sym entry.1 ∙ is_folder among.0.kind tests.0 })

  name_of_mod : (id : List ℕ) → IsMod d id → Contains (mod_names es) id
  name_of_mod id is_mod =
      let found = contains_map (λ (e : Entry). e.name) es id (listing.whole id (λ gone. let no : Folder ≡ Absent = sym is_mod.folder ∙ gone in cc)) in
      let e = found.0 in
      let kind : e.kind ≡ Folder = (listed_item d stage_spot es e listing found.1).1 ∙ ap (λ n. kind_of d (record { root = stage_spot.root; names = n ∷ [] })) found.2 ∙ is_mod.folder in
      let passes : is_mod_entry e ≡ true = (λ i. is_folder_kind (kind i) && is_none (id_fault (found.2 i))) ∙ ap is_none is_mod.named in
      subst (λ n. Contains (mod_names es) n) found.2 (map_contains (λ (x : Entry). x.name) _ e (filter_contains is_mod_entry es e found.1 passes))

  pub lists_mods : (ids : List (List ℕ)) → AreInPathOrder ids → HasSamePaths (mod_names es) ids → ListsMods d ids
  lists_mods ids sorted same = record {
    order = sorted;
    each = all_from_contains (IsMod d) ids (λ id there. mod_named id ((same id).0 there));
    whole = λ id is_mod. (same id).1 (name_of_mod id is_mod);
  }

-- ids in order differ
pub distinct_in_order : (ids : List (List ℕ)) → AreInPathOrder ids → IsDistinct (pointwise nat_eq) ids
unfolding IsDistinct IsStrictlySortedBy
distinct_in_order [] s = tt
distinct_in_order (x ∷ xs) s = (all_weaken (λ y. slice_cmp nat_cmp x y ≡ Less) (λ y. bytes_eq x y ≡ false) xs (λ y less. bytes_eq-apart x y (text_less-apart x y less)) s.0, distinct_in_order xs s.1)
