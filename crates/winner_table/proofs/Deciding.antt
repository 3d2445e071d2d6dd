-- From rows to winners, and from the first folder to the least one.
use Rattle.std.proofs.Common.{◌≡◌, ◌≢◌, ℕ, suc, ◌+◌, ◌<◌, true, nat_eq, List, [], ◌∷◌, ◌++◌, length, get_or, take, drop, map, sym, refl, ap, subst, ◌∙◌, inl, inr, arith}
use Rattle.std.proofs.lemmas.List.{map-append}
use Rattle.std.specs.List.{AllByRecursion, Contains, IsDistinct}
use Rattle.std.specs.List.Sorted.{IsStrictlySortedBy}
use Rattle.std.specs.Ordering.{nat_cmp, ordering_reverse}
use Rattle.std.specs.Cmp.Lexicographic.{slice_cmp, pointwise, nat_list_cmp_total}
use Rattle.std.specs.declared.cmp.Ordering.TheVariants.{Less, Equal, Greater}
use Rattle.std.specs.declared.option.Option.{Option}
use Rattle.std.specs.declared.option.Option.TheVariants.{None, Some}
use Rattle.std.proofs.lemmas.Cmp.{tied_itself}
use Rattle.std.proofs.lemmas.List.Elements.{Contains-append_cases, Contains-append_right}
use Rattle.std.proofs.lemmas.Grind.{common_steps}
use Rattle.list_laws.proofs.Alls.{all_item, all_weaken, all_map, all_more, all_from_contains}
use Rattle.list_laws.proofs.Containing.{contains_here, contains_cases, contains_map, map_contains}
use Rattle.list_laws.proofs.Lists.{one_more, around}
use Rattle.profile_toml.specs.Records.{OverrideData}
use Rattle.stage_scan.specs.declared.scan.Scan.{Scan}
use Rattle.rel_paths.specs.Names.{IsFreePath, extends}
use Rattle.stage_scan.specs.Files.{AreInPathOrder}
use Rattle.list_laws.proofs.Sorted.{sorted_back}
use Rattle.winner_table.specs.declared.wins.By.{By}
use Rattle.winner_table.specs.declared.wins.By.TheVariants.{Override, Order}
use Rattle.winner_table.specs.declared.wins.WinRow.{WinRow}
use Rattle.winner_table.specs.declared.providers.Providers.{Providers}
use Rattle.winner_table.specs.Winners.{id_at, providers, paths_of, IsProvided, IsOverridden, IsLast, IsWinner, AreWinners, HasEachOnce}
use Rattle.winner_table.specs.Offers.{IsNodeOf}
use Rattle.winner_table.specs.Providers.{path_of, HasItsProviders, IsProvidedPath, AreAllProviders}
use Rattle.winner_table.specs.Overrides.{IsIdAt}
use Rattle.winner_table.specs.Rows.{IsWanted, IsPick, IsRowOf, HasEntry, HasNodes}
use Rattle.winner_table.specs.Folders.{IsFolderOf, AreApart, IsFirstFolder, IsLeastFolder}
use Rattle.winner_table.proofs.Overriding.{one_override}
use Rattle.winner_table.proofs.Offered.{provider_is, provided_has}

-- One row

module _ (scans : List Scan) (order : List ℕ) (overrides : List OverrideData) (path nodes : List ℕ) (own : nodes ≡ providers scans order path) where
  overridden : (wanted : Option (List ℕ)) (id : List ℕ) → IsIdAt overrides path wanted → IsWanted scans nodes wanted id → IsOverridden scans order overrides path id
  overridden wanted id at w =
      let e = subst (IsIdAt overrides path) w.0 at in
      record { entry = e.entry; among = e.among; at = e.at; to = e.to; provides = subst (λ l. Contains (map (id_at scans) l) id) own w.1 }

  wanted_by : (wanted : Option (List ℕ)) (id : List ℕ) → IsDistinct (pointwise nat_eq) (map (λ (o : OverrideData). o.path) overrides) → IsIdAt overrides path wanted → IsOverridden scans order overrides path id → IsWanted scans nodes wanted id
  wanted_by None id differ at o = absurd (at o.entry o.among o.at)
  wanted_by (Some w) id differ at o =
      let one = one_override overrides at.entry o.entry differ at.among o.among (at.at ∙ sym o.at) in
      (ap Some (sym at.to ∙ ap (λ (e : OverrideData). e.mod_id) one ∙ o.to), subst (λ l. Contains (map (id_at scans) l) id) (sym own) o.provides)

  winner_by : (wanted : Option (List ℕ)) (id : List ℕ) (by : By) → IsDistinct (pointwise nat_eq) (map (λ (o : OverrideData). o.path) overrides) → IsIdAt overrides path wanted → IsPick scans nodes wanted id by → IsWinner scans order overrides path id by
  winner_by wanted id Override differ at p = overridden wanted id at p
  winner_by wanted id Order differ at p = record {
    free = λ other o. p.0 other (wanted_by wanted other differ at o);
    front = p.1.front;
    node = p.1.node;
    last = sym own ∙ p.1.last;
    is = p.1.is;
  }

-- All rows

module _ (scans : List Scan) (order : List ℕ) (overrides : List OverrideData) (all : List Providers) (rows : List WinRow)
    (are : AreAllProviders scans order all) (paths : paths_of rows ≡ map path_of all) where
  row_path : (path : List ℕ) → Contains (paths_of rows) path → IsProvided scans order path
  row_path path c =
      let e = contains_map path_of all path (subst (λ l. Contains l path) paths c) in
      subst (IsProvided scans order) e.2 (all_item (IsProvidedPath scans order) all e.0 are.provided e.1)

  provided_row : (path : List ℕ) → IsProvided scans order path → Contains (paths_of rows) path
  provided_row path is = subst (λ l. Contains l path) (sym paths) (are.whole path is)

  pub rows_ordered : AreInPathOrder (paths_of rows)
  rows_ordered = subst AreInPathOrder (sym paths) are.order_of_paths

  pub rows_free : AllByRecursion IsFreePath (paths_of rows)
  rows_free = subst (AllByRecursion IsFreePath) (sym paths) (all_map IsFreePath path_of all are.free)

  pub rows_win : IsDistinct (pointwise nat_eq) (map (λ (o : OverrideData). o.path) overrides) → AllByRecursion (HasEntry scans overrides all) rows → AreWinners scans order overrides rows
  rows_win differ each = record {
    order_of_paths = rows_ordered;
    each = all_weaken (HasEntry scans overrides all) (λ row. IsWinner scans order overrides row.path row.mod_id row.by) rows
        (λ row h. subst (λ p. IsWinner scans order overrides p row.mod_id row.by) (sym h.is.path)
        (winner_by scans order overrides (path_of h.entry) h.entry.nodes.items (all_item (HasItsProviders scans order) all h.entry are.each h.among) h.is.wanted row.mod_id row.by differ h.is.at h.is.pick)) each;
    whole = provided_row;
  }

  -- a path below the first folder's is that of a row in front of it
  in_front : (front back : List WinRow) (row : WinRow) (other : List ℕ) → rows ≡ front ++ row ∷ back → slice_cmp nat_cmp other row.path ≡ Less → Contains (paths_of rows) other → Contains (paths_of front) other
  in_front front back row other split less c = elim (Contains-append_cases (paths_of front) (row.path ∷ paths_of back) other (subst (λ l. Contains l other) (paths_split front back row split) c)) [
    | inl l ↦ l
    | inr r ↦ elim (contains_cases row.path other (paths_of back) r) [
      | inl e ↦ (let t : Less ≡ Equal = sym less ∙ ap (slice_cmp nat_cmp other) (sym e) ∙ tied_itself nat_list_cmp_total other in absurd (cc))
      | inr d ↦ (let later = all_item (λ q. slice_cmp nat_cmp row.path q ≡ Less) (paths_of back) other (sorted_back (slice_cmp nat_cmp) (paths_of front) row.path (paths_of back) (subst AreInPathOrder (paths_split front back row split) rows_ordered)) d in
          let t : Less ≡ Greater = sym less ∙ nat_list_cmp_total.antisymm other row.path ∙ ap ordering_reverse later in absurd (cc))
    ]
  ]
    where
      paths_split : (front back : List WinRow) (row : WinRow) → rows ≡ front ++ row ∷ back → paths_of rows ≡ paths_of front ++ row.path ∷ paths_of back
      paths_split front back row split = ap paths_of split ∙ map-append (λ (r : WinRow). r.path) front (row ∷ back)

  pub least_folder : (index : ℕ) (row : WinRow) → IsFirstFolder rows index → row ≡ get_or rows index row → IsLeastFolder scans order row.path
  least_folder index row f is =
      let same : row ≡ f.row = same_read rows index row f.row f.within is f.is in
      let split = around rows index f.row f.within f.is in
      let at = map_contains (λ (r : WinRow). r.path) rows f.row (subst (λ l. Contains l f.row) (sym split) (Contains-append_right (take index rows) (f.row ∷ drop (suc index) rows) f.row (contains_here f.row (drop (suc index) rows)))) in
      subst (λ (r : WinRow). IsLeastFolder scans order r.path) (sym same) (record {
        provided = row_path f.row.path at;
        below = f.folder.below;
        provided_below = row_path f.folder.below f.folder.among;
        extending = f.folder.extending;
        least = λ other more p q ext less.
            (let front = contains_map (λ (r : WinRow). r.path) (take index rows) other (in_front (take index rows) (drop (suc index) rows) f.row other split less (provided_row other p)) in
            all_item (λ (r : WinRow). IsFolderOf (paths_of rows) r.path → ⊥) (take index rows) front.0 f.before front.1
            (subst (IsFolderOf (paths_of rows)) (sym front.2) (record { below = more; among = provided_row more q; extending = ext })));
      })
    where
      same_read : (xs : List WinRow) (i : ℕ) (x y : WinRow) → i < length xs → x ≡ get_or xs i x → y ≡ get_or xs i y → x ≡ y
      same_read xs i x y low a b = grind (arith, common_steps)

-- What rows are made of

pub each_has_nodes : (scans : List Scan) (order : List ℕ) (all : List Providers) → HasEachOnce (length scans) order → AreAllProviders scans order all → AllByRecursion (HasNodes scans) all
each_has_nodes scans order all once are = all_from_contains (HasNodes scans) all (λ x c. nodes x (all_item (HasItsProviders scans order) all x are.each c) (all_item (IsProvidedPath scans order) all x are.provided c))
  where
    nodes : (x : Providers) → HasItsProviders scans order x → IsProvidedPath scans order x → HasNodes scans x
    nodes x own is = (
      subst (λ (l : List ℕ). 0 < length l) (sym own) (provided_has scans order (path_of x) is),
      all_from_contains (IsNodeOf scans) x.nodes.items (λ k c. once.only k (provider_is scans order (path_of x) k (subst (λ l. Contains l k) own c)).0),
    )

-- One row more

pub paths_more : (all : List Providers) (rows : List WinRow) (i : ℕ) (entry : Providers) (row : WinRow) → i < length all → entry ≡ get_or all i entry → row.path ≡ path_of entry
    → paths_of rows ≡ map path_of (take i all) → paths_of (rows ++ row ∷ []) ≡ map path_of (take (i + 1) all)
paths_more all rows i entry row low is at before =
    map-append (λ (r : WinRow). r.path) rows (row ∷ []) ∙ (λ j. before j ++ at j ∷ []) ∙ sym (map-append path_of (take i all) (entry ∷ []))
    ∙ ap (map path_of) (sym (one_more all i entry low is))

pub rows_more : (scans : List Scan) (overrides : List OverrideData) (all : List Providers) (rows : List WinRow) (i : ℕ) (entry : Providers) (row : WinRow) (wanted : Option (List ℕ)) (nodes : List ℕ)
    → i < length all → entry ≡ get_or all i entry → row.path ≡ path_of entry → IsIdAt overrides (path_of entry) wanted → nodes ≡ entry.nodes.items
    → IsPick scans nodes wanted row.mod_id row.by → AllByRecursion (HasEntry scans overrides all) rows → AllByRecursion (HasEntry scans overrides all) (rows ++ row ∷ [])
rows_more scans overrides all rows i entry row wanted nodes low is at wants same pick before = all_more (HasEntry scans overrides all) rows row before (record {
  entry = entry;
  among = (i, low, sym is);
  is = record { path = at; wanted = wanted; at = wants; pick = subst (λ l. IsPick scans l wanted row.mod_id row.by) same pick };
})
