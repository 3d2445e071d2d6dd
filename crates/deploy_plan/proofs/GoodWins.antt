-- Winners with their sources are such as a plan can be made for.
use Rattle.std.proofs.Common.{◌≡◌, ◌≢◌, ℕ, Bool, true, false, cond, List, [], ◌∷◌, ◌++◌, map, unwrap_or, IsSome, refl, sym, ap, ◌∙◌, subst, append_assoc}
use Rattle.std.specs.List.{AllByRecursion, Contains}
use Rattle.std.specs.List.Sorted.{IsStrictlySortedBy}
use Rattle.std.specs.Ordering.{nat_cmp}
use Rattle.std.specs.Str.{bytes_eq}
use Rattle.std.specs.Cmp.Lexicographic.{slice_cmp}
use Rattle.std.specs.declared.cmp.Ordering.TheVariants.{Less}
use Rattle.std.specs.declared.option.Option.{Option}
use Rattle.std.specs.declared.option.Option.TheVariants.{None, Some}
use Rattle.std.proofs.lemmas.List.{append-nil}
use Rattle.std.proofs.lemmas.Slice.Eq.{bytes_eq-Decides}
use Rattle.list_laws.proofs.Alls.{all_item, all_from_contains, all_map}
use Rattle.list_laws.proofs.Containing.{map_contains, contains_here, contains_there}
use Rattle.list_laws.proofs.Orders.{text_less-apart}
use Rattle.list_laws.proofs.Truths.{some_is}
use Rattle.rel_paths.specs.Names.{names_of, IsFreePath, IsModId}
use Rattle.rel_paths.proofs.NamesOf.{same_text, names_of-joined}
use Rattle.stage_scan.specs.declared.scan.Scan.{Scan}
use Rattle.stage_scan.specs.declared.placed.Sources.{Sources}
use Rattle.stage_scan.specs.Placed.{target}
use Rattle.stage_scan.specs.Files.{AreInPathOrder}
use Rattle.manifest_json.specs.Paths.{AreRising}
use Rattle.manifest_json.specs.Apart.{Reaches}
use Rattle.manifest_json.specs.Apart.{AreApart as AreApartSources}
use Rattle.winner_table.specs.declared.wins.WinRow.{WinRow}
use Rattle.winner_table.specs.Folders.{AreApart}
use Rattle.winner_table.specs.Winners.{paths_of}
use Rattle.desk_model.specs.Deployed.{Win}
use Rattle.plan_model.proofs.Rows.{below-extends}
use Rattle.deploy_plan.specs.Wins.{won_paths, HasApartWins}
use Rattle.deploy_plan.specs.Sources.{AreSources, AreFrom, source_at, source_in, win_from, wins_of}
use Rattle.deploy_plan.specs.Told.{IsWin, AreGoodWins}

-- The sources of one mod

pub at_target : (f : List ℕ → List ℕ) (items : List (List ℕ)) (path s : List ℕ) → source_at (map f items) items path ≡ Some s → Contains items s × (path ≡ f s)
at_target f [] path s e = absurd (cc)
at_target f (x ∷ xs) path s e = by_test (at_target f xs path s) (bytes_eq (f x) path) refl e
  where
    by_test : (source_at (map f xs) xs path ≡ Some s → Contains xs s × (path ≡ f s)) → (b : Bool) → bytes_eq (f x) path ≡ b → cond b (Some x) (source_at (map f xs) xs path) ≡ Some s → Contains (x ∷ xs) s × (path ≡ f s)
    by_test later true t h =
        let same : x ≡ s = cc in
        (subst (Contains (x ∷ xs)) same (contains_here x xs), sym ((bytes_eq-Decides (f x) path).0 t) ∙ ap f same)
    by_test later false t h = let rest = later h in (contains_there x s xs rest.0, rest.1)

-- a source with the path that its file is deployed at
abbrev IsSourceAt : Option (List ℕ) → (path source : List ℕ) → Type 0
IsSourceAt base path s = (path ≡ target base s) × IsFreePath s

abbrev HasBase : List Scan → List Sources → List ℕ → Option (List ℕ) → Type 0
HasBase scans sources id base = (path s : List ℕ) → source_in scans sources id path ≡ Some s → IsSourceAt base path s

base_of : (scans : List Scan) (sources : List Sources) → AreSources scans sources → (id : List ℕ) → (base : Option (List ℕ)) × HasBase scans sources id base
base_of [] sources h id = (None, λ path s e. absurd (cc))
base_of (scan ∷ scans) [] h id = absurd h
base_of (scan ∷ scans) (own ∷ sources) h id = by_test (bytes_eq scan.mod_id id) (base_of scans sources h.1 id)
  where
    by_test : (b : Bool) → (base : Option (List ℕ)) × HasBase scans sources id base
        → (base : Option (List ℕ)) × ((path s : List ℕ) → cond b (source_at scan.files own.paths.items path) (source_in scans sources id path) ≡ Some s → IsSourceAt base path s)
    by_test true rest = (
      h.0.base,
      λ path s e.
          let at = at_target (target h.0.base) own.paths.items path s (ap (λ l. source_at l own.paths.items path) (sym h.0.targets) ∙ e) in
          (at.1, all_item IsFreePath own.paths.items s h.0.free at.0),
    )
    by_test false rest = rest

target_names : (base : Option (List ℕ)) (s t : List ℕ) (rest : List (List ℕ)) → names_of s ≡ names_of t ++ rest → names_of (target base s) ≡ names_of (target base t) ++ rest
target_names None s t rest e = e
target_names (Some base) s t rest e =
    names_of-joined base s ∙ ap (λ l. names_of base ++ l) e ∙ sym (append_assoc (names_of base) (names_of t) rest) ∙ ap (λ l. l ++ rest) (sym (names_of-joined base t))

module _ (scans : List Scan) (sources : List Sources) (rows : List WinRow) (order : AreInPathOrder (paths_of rows)) (free : AllByRecursion IsFreePath (paths_of rows)) (apart : AreApart (paths_of rows)) (belong : AreSources scans sources) (from : AreFrom scans sources rows) (ids : AllByRecursion (λ (row : WinRow). IsModId row.mod_id) rows) where
  its : (r : WinRow) → Contains rows r → IsSourceAt (base_of scans sources belong r.mod_id).0 r.path (unwrap_or (source_in scans sources r.mod_id r.path) [])
  its r c =
      let s = some_is (source_in scans sources r.mod_id r.path) (all_item (λ (row : WinRow). IsSome (source_in scans sources row.mod_id row.path)) rows r from c) in
      subst (IsSourceAt (base_of scans sources belong r.mod_id).0 r.path) (sym (ap (λ o. unwrap_or o []) s.1)) ((base_of scans sources belong r.mod_id).1 r.path s.0 s.1)

  -- what reaches another's source would lie at its path, or below it
  not_reach : (base : Option (List ℕ)) (p q s t : List ℕ) → p ≡ target base s → q ≡ target base t → p ≢ q → Contains (paths_of rows) p → Contains (paths_of rows) q → ¬ Reaches s t
  not_reach base p q s t e f ne cp cq reach = by_rest reach.rest (ap names_of e ∙ target_names base s t reach.rest reach.names ∙ ap (λ l. names_of l ++ reach.rest) (sym f))
    where
      by_rest : (rest : List (List ℕ)) → names_of p ≡ names_of q ++ rest → ⊥
      by_rest [] k = ne (same_text p q (k ∙ append-nil (names_of q)))
      by_rest (n ∷ more) k = apart q cq (record { below = p; among = cp; extending = below-extends q p (record { root = refl; name = n; rest = more; names = k }) })

  sources_apart : (r q : WinRow) → Contains rows r → Contains rows q → r.path ≢ q.path → r.mod_id ≡ q.mod_id
      → AreApartSources (unwrap_or (source_in scans sources r.mod_id r.path) []) (unwrap_or (source_in scans sources q.mod_id q.path) [])
  sources_apart r q c d ne same =
      let base = (base_of scans sources belong r.mod_id).0 in
      let here = (its r c).0 in
      let there : q.path ≡ target base (unwrap_or (source_in scans sources q.mod_id q.path) []) = subst (λ id. q.path ≡ target (base_of scans sources belong id).0 (unwrap_or (source_in scans sources q.mod_id q.path) [])) (sym same) (its q d).0 in
      let cr = map_contains (λ (x : WinRow). x.path) rows r c in
      let cq = map_contains (λ (x : WinRow). x.path) rows q d in
      (not_reach base r.path q.path _ _ here there ne cr cq, not_reach base q.path r.path _ _ there here (λ e. ne (sym e)) cq cr)

  each : (r : WinRow) → Contains rows r → IsWin (win_from r (unwrap_or (source_in scans sources r.mod_id r.path) []))
  each r c = record {
    path = all_item IsFreePath (paths_of rows) r.path free (map_contains (λ (x : WinRow). x.path) rows r c);
    mod_id = all_item (λ (x : WinRow). IsModId x.mod_id) rows r ids c;
    source = (its r c).1;
  }

  all_apart : (rs : List WinRow) → ((r : WinRow) → Contains rs r → Contains rows r) → AreRising (paths_of rs) → HasApartWins (wins_of scans sources rs)
  unfolding IsStrictlySortedBy
  all_apart [] among rise = tt
  all_apart (r ∷ rs) among rise = (
    all_map (λ (v : Win). r.mod_id ≡ v.mod_id → AreApartSources (unwrap_or (source_in scans sources r.mod_id r.path) []) v.source) (λ row. win_from row (unwrap_or (source_in scans sources row.mod_id row.path) [])) rs
        (all_from_contains _ rs (λ q c. λ same.
        sources_apart r q (among r (contains_here r rs)) (among q (contains_there r q rs c))
        (text_less-apart r.path q.path (all_item (λ p. slice_cmp nat_cmp r.path p ≡ Less) (paths_of rs) q.path rise.0 (map_contains (λ (x : WinRow). x.path) rs q c))) same)),
    all_apart rs (λ q c. among q (contains_there r q rs c)) rise.1,
  )

  pub paths_same : (rs : List WinRow) → won_paths (wins_of scans sources rs) ≡ paths_of rs
  paths_same [] = refl
  paths_same (r ∷ rs) = ap (λ l. r.path ∷ l) (paths_same rs)

  pub good_wins : AreGoodWins (wins_of scans sources rows)
  good_wins = record {
    each = all_map IsWin (λ row. win_from row (unwrap_or (source_in scans sources row.mod_id row.path) [])) rows (all_from_contains _ rows each);
    rise = subst AreRising (sym (paths_same rows)) order;
    apart = subst AreApart (sym (paths_same rows)) apart;
    sources = all_apart rows (λ r c. c) order;
  }
