-- What nodes provide, and that merging by path keeps the providers of each path in the load order.
use Rattle.std.proofs.Common.{◌≡◌, ◌≢◌, ℕ, ◌<◌, ◌≤◌, ◌^◌, ◌||◌, Bool, true, false, not, ◌&&◌, cond, eqb, List, [], ◌∷◌, ◌++◌, length, map, filter, flat_map, sym, refl, ap, subst, ◌∙◌, inl, inr, arith, true≢false}
use Rattle.std.proofs.lemmas.List.{map-append}
use Rattle.std.specs.List.{AllByRecursion, Contains, IsDistinct, list_any}
use Rattle.std.specs.List.Sorted.{IsStrictlySortedBy, ties}
use Rattle.std.specs.Str.{bytes_eq}
use Rattle.std.specs.Ordering.{nat_cmp, is_lt, is_eq, ordering_reverse}
use Rattle.std.specs.Cmp.Lexicographic.{slice_cmp, nat_list_cmp_total}
use Rattle.std.specs.declared.cmp.Ordering.{Ordering}
use Rattle.std.specs.declared.cmp.Ordering.TheVariants.{Less, Equal, Greater}
use Rattle.std.proofs.lemmas.List.Elements.{filter-append, Contains-append_left, Contains-append_right}
use Rattle.std.proofs.lemmas.List.Sorted.{Contains-permutation}
use Rattle.std.proofs.lemmas.Map.Text.{is_eq-slice_cmp}
use Rattle.list_laws.proofs.Alls.{all_weaken, all_map, all_unmap, all_item, all_from_contains}
use Rattle.list_laws.proofs.Containing.{contains_here, contains_there, contains_cases, contains_none, contains_map, map_contains, contains_filter, filter_contains}
use Rattle.stage_scan.specs.declared.scan.Scan.{Scan}
use Rattle.rel_paths.specs.Names.{IsFreePath}
use Rattle.stage_scan.specs.Files.{AreInPathOrder, AreFilePaths}
use Rattle.list_laws.proofs.Texts.{text_in-from_any, any-from_text_in}
use Rattle.winner_table.specs.Merged.{is_below, sorted_by}
use Rattle.winner_table.specs.Winners.{files_at, provides, providers, IsProvided}
use Rattle.winner_table.specs.Offers.{offers_of, offers, grouped}
use Rattle.winner_table.specs.Providers.{path_of, path_and_nodes, HasItsProviders, IsProvidedPath, AreAllProviders}
use Rattle.winner_table.specs.declared.providers.Providers.{Providers}
use Rattle.winner_table.proofs.Sorting.{either}
use Rattle.winner_table.proofs.Orders.{keys_rank}
use Rattle.winner_table.proofs.Taken.{sorted_permutes}
use Rattle.winner_table.proofs.StableSorts.{sorted_keeps, sorted_rises}
use Rattle.winner_table.proofs.Grouping.{Pair, Group, path, node, at, group_path, equal, same, below_differs, filter_yes, filter_no, filter_none, AreGroups, IsGroupOf, groups_are}

-- One node

module _ (p : List ℕ) (k : ℕ) where
  later_differ : (fs : List (List ℕ)) → AllByRecursion (λ f. slice_cmp nat_cmp p f ≡ Less) fs → AllByRecursion (λ x. bytes_eq p (path x) ≡ false) (offers_of k fs)
  later_differ fs h = all_map (λ x. bytes_eq p (path x) ≡ false) (λ f. (f, k)) fs (all_weaken (λ f. slice_cmp nat_cmp p f ≡ Less) (λ f. bytes_eq p f ≡ false) fs (λ f less. below_differs p f less) h)

  pub one_node : (fs : List (List ℕ)) → AreInPathOrder fs → map node (filter (at p) (offers_of k fs)) ≡ cond (list_any (bytes_eq p) fs) (k ∷ []) []
  unfolding IsStrictlySortedBy
  one_node [] h = refl
  one_node (f ∷ fs) h = elim (either (bytes_eq p f)) [
    | inl e ↦ (let later = subst (λ q. AllByRecursion (λ g. slice_cmp nat_cmp q g ≡ Less) fs) (sym (same p f e)) h.0 in
        ap (map node) (filter_yes p (f, k) (offers_of k fs) e) ∙ ap (λ l. k ∷ map node l) (filter_none p (offers_of k fs) (later_differ fs later))
        ∙ ap (λ b. cond (b || list_any (bytes_eq p) fs) (k ∷ []) []) (sym e))
    | inr e ↦ ap (map node) (filter_no p (f, k) (offers_of k fs) e) ∙ one_node fs h.1 ∙ ap (λ b. cond (b || list_any (bytes_eq p) fs) (k ∷ []) []) (sym e)
  ]

-- All nodes

module _ (scans : List Scan) where
  pub each_node : (p : List ℕ) (order : List ℕ) → AllByRecursion (λ k. AreFilePaths (files_at scans k)) order → map node (filter (at p) (offers scans order)) ≡ providers scans order p
  each_node p [] h = refl
  each_node p (k ∷ ks) h =
      ap (map node) (filter-append (at p) (offers_of k (files_at scans k)) (offers scans ks)) ∙ map-append node (filter (at p) (offers_of k (files_at scans k))) (filter (at p) (offers scans ks))
      ∙ (λ i. one_node p k (files_at scans k) h.0.order i ++ each_node p ks h.1 i)
      ∙ put (provides scans p k)
    where
      put : (b : Bool) → cond b (k ∷ []) [] ++ providers scans ks p ≡ cond b (k ∷ providers scans ks p) (providers scans ks p)
      put true = refl
      put false = refl

  pub offered : (order : List ℕ) (k : ℕ) (p : List ℕ) → Contains order k → Contains (files_at scans k) p → Contains (offers scans order) (p, k)
  offered [] k p c file = absurd (contains_none k c)
  offered (j ∷ js) k p c file = elim (contains_cases j k js c) [
    | inl e ↦ Contains-append_left (offers_of j (files_at scans j)) (offers scans js) (p, k)
        (subst (λ i. Contains (offers_of i (files_at scans i)) (p, k)) e (map_contains (λ f. (f, k)) (files_at scans k) p file))
    | inr d ↦ Contains-append_right (offers_of j (files_at scans j)) (offers scans js) (p, k) (offered js k p d file)
  ]

-- The merge

tie_from : (o r : Ordering) → r ≡ ordering_reverse o → (not (is_lt o) && not (is_lt r)) ≡ is_eq o
tie_from Less r e = refl
tie_from Equal r e = ap (λ s. not (is_lt s)) e
tie_from Greater r e = ap (λ s. not (is_lt s)) e

ties_at : (p : List ℕ) → ties (is_below path) (p, 0) ≡ at p
ties_at p = λ i x. tie x i
  where
    tie : (x : Pair) → ties (is_below path) (p, 0) x ≡ at p x
    tie x = tie_from (slice_cmp nat_cmp p x.0) (slice_cmp nat_cmp x.0 p) (nat_list_cmp_total.antisymm x.0 p) ∙ is_eq-slice_cmp p x.0

pub kept_at : (p : List ℕ) (xs : List Pair) → filter (at p) (sorted_by path xs) ≡ filter (at p) xs
kept_at p xs = subst (λ t. filter t (sorted_by path xs) ≡ filter t xs) (ties_at p) (sorted_keeps (is_below path) (keys_rank path) (p, 0) xs)

-- The providers of each path

pub provider_is : (scans : List Scan) (order p : List ℕ) (k : ℕ) → Contains (providers scans order p) k → Contains order k × Contains (files_at scans k) p
provider_is scans order p k c = let r = contains_filter (provides scans p) order k c in (r.0, text_in-from_any (files_at scans k) p r.1)

some_provider : (scans : List Scan) (order p nodes : List ℕ) → nodes ≡ providers scans order p → 0 < length nodes → IsProvided scans order p
some_provider scans order p [] is some = absurd (omega arith)
some_provider scans order p (k ∷ ks) is some =
    let r = provider_is scans order p k (subst (λ l. Contains l k) is (contains_here k ks)) in
    record { node = k; among = r.0; file = r.1 }

module _ (scans : List Scan) (order : List ℕ) (files : AllByRecursion (λ k. AreFilePaths (files_at scans k)) order) where
  free_path : (p : List ℕ) → IsProvided scans order p → IsFreePath p
  free_path p is = all_item IsFreePath (files_at scans is.node) p (all_item (λ k. AreFilePaths (files_at scans k)) order is.node files is.among).free is.file

  pub all_are : (all : List Providers) → map path_and_nodes all ≡ grouped (sorted_by path (offers scans order)) → AreAllProviders scans order all
  all_are all is =
      let merged = sorted_by path (offers scans order) in
      let groups = subst (AreGroups merged) (sym is) (groups_are merged (sorted_rises (is_below path) (keys_rank path) (offers scans order))) in
      let own : (g : Group) → IsGroupOf merged g → g.1 ≡ providers scans order g.0 = λ g w. w.nodes ∙ ap (map node) (kept_at g.0 (offers scans order)) ∙ each_node scans g.0 order files in
      let paths : map group_path (map path_and_nodes all) ≡ map path_of all = map_map all in
      let each = all_unmap (λ g. g.1 ≡ providers scans order g.0) path_and_nodes all (all_weaken (IsGroupOf merged) (λ g. g.1 ≡ providers scans order g.0) (map path_and_nodes all) own groups.each) in
      let provided = all_unmap (λ g. IsProvided scans order g.0) path_and_nodes all (all_weaken (IsGroupOf merged) (λ g. IsProvided scans order g.0) (map path_and_nodes all) (λ g w. some_provider scans order g.0 g.1 (own g w) w.some) groups.each) in
      record {
        order_of_paths = subst AreInPathOrder paths groups.order;
        free = all_weaken (IsProvidedPath scans order) (λ x. IsFreePath (path_of x)) all (λ x w. free_path (path_of x) w) provided;
        each = each;
        provided = provided;
        whole = λ p w. subst (λ l. Contains l p) paths (groups.whole (p, w.node)
            (Contains-permutation (offers scans order) merged (p, w.node) (sorted_permutes (is_below path) (offers scans order)) (offered scans order w.node p w.among w.file)));
      }
    where
      map_map : (all : List Providers) → map group_path (map path_and_nodes all) ≡ map path_of all
      map_map [] = refl
      map_map (x ∷ xs) = ap (λ l. path_of x ∷ l) (map_map xs)

-- a provided path has a provider

some_item : (xs : List ℕ) (x : ℕ) → Contains xs x → 0 < length xs
some_item [] x c = absurd (contains_none x c)
some_item (y ∷ ys) x c = omega arith

pub provided_has : (scans : List Scan) (order p : List ℕ) → IsProvided scans order p → 0 < length (providers scans order p)
provided_has scans order p is = some_item (providers scans order p) is.node (filter_contains (provides scans p) order is.node is.among (any-from_text_in (files_at scans is.node) p is.file))
