-- Winners of scans: their sources, and that these are files.
use Rattle.std.proofs.Common.{◌≡◌, ◌⊎◌, ℕ, zero, suc, Bool, true, false, cond, List, [], ◌∷◌, ◌++◌, map, unwrap_or, IsSome, is_some, slice_get, refl, sym, ap, ◌∙◌, inl, inr, subst}
use Rattle.std.specs.List.{AllByRecursion, Contains, IsDistinct}
use Rattle.std.specs.Str.{bytes_eq}
use Rattle.std.specs.declared.option.Option.{Option}
use Rattle.std.specs.declared.option.Option.TheVariants.{None, Some}
use Rattle.list_laws.proofs.Alls.{all_item, all_from_contains, all_map}
use Rattle.list_laws.proofs.Containing.{contains_here, contains_there, contains_cases, contains_none, contains_map, map_contains}
use Rattle.list_laws.proofs.Texts.{bytes_eq-itself, bytes_eq_tells}
use Rattle.list_laws.proofs.Truths.{some_is}
use Rattle.tree_fs.specs.declared.name.Kind.TheVariants.{File}
use Rattle.tree_fs.specs.Disk.{Disk, IsFile, kind_of}
use Rattle.tree_fs.specs.Places.{staged_spot}
use Rattle.tree_fs.proofs.KindOf.{kind-file}
use Rattle.profile_toml.specs.Records.{OverrideData}
use Rattle.stage_scan.specs.declared.scan.Scan.{Scan}
use Rattle.stage_scan.specs.declared.placed.Sources.{Sources}
use Rattle.stage_scan.specs.Placed.{target}
use Rattle.winner_table.specs.declared.wins.WinRow.{WinRow}
use Rattle.winner_table.specs.declared.wins.By.{By}
use Rattle.winner_table.specs.declared.wins.By.TheVariants.{Override, Order}
use Rattle.winner_table.specs.Winners.{id_at, id_of, files_of, providers, IsWinner, AreWinners}
use Rattle.winner_table.proofs.Offered.{provider_is}
use Rattle.desk_model.specs.Deployed.{Win, won_spot}
use Rattle.deploy_plan.specs.Sources.{AreSources, AreItsSources, AreFrom, source_at, source_in, win_from, wins_of}
use Rattle.deploy_plan.specs.Scanned.{IsScanned, AreScanned, HasOwnIds}
use Rattle.deploy_plan.proofs.GoodWins.{at_target}

-- One mod

-- its files are at the targets of their sources
targets_of : (a : Disk) (scan : Scan) (own : Sources) (is : IsScanned a scan own) → scan.files ≡ map (target is.base) own.paths.items
targets_of a scan own is = is.placed.targets ∙ ap (map (target is.base)) (sym is.placed.sources)

its_sources : (a : Disk) (scan : Scan) (own : Sources) → IsScanned a scan own → AreItsSources scan own
its_sources a scan own is = record {
  base = is.base;
  targets = targets_of a scan own is;
  free = subst (AllByRecursion _) (sym is.placed.sources) is.free;
}

-- a file has a source
has_source_at : (f : List ℕ → List ℕ) (items : List (List ℕ)) (path : List ℕ) → Contains (map f items) path → IsSome (source_at (map f items) items path)
has_source_at f [] path c = absurd (contains_none path c)
has_source_at f (x ∷ xs) path c = elim (bytes_eq_tells (f x) path) [
  | inl same ↦ ap (λ t. is_some (cond t (Some x) (source_at (map f xs) xs path))) same.0
  | inr apart ↦ ap (λ t. is_some (cond t (Some x) (source_at (map f xs) xs path))) apart.0 ∙ elim (contains_cases (f x) path (map f xs) c) [
    | inl here ↦ absurd (apart.1 (sym here))
    | inr there ↦ has_source_at f xs path there
  ]
]

-- and the source is a file
source_is_file : (a : Disk) (scan : Scan) (own : Sources) (path s : List ℕ) → IsScanned a scan own → source_at scan.files own.paths.items path ≡ Some s → IsFile a (staged_spot scan.mod_id s)
source_is_file a scan own path s is e =
    let found = at_target (target is.base) own.paths.items path s (subst (λ l. source_at l own.paths.items path ≡ Some s) (targets_of a scan own is) e) in
    let among : Contains is.walked.files s = subst (λ l. Contains l s) is.placed.sources found.0 in
    (kind-file a (staged_spot scan.mod_id s) (all_item (λ p. kind_of a (staged_spot scan.mod_id p) ≡ File) is.walked.files s is.is_scan.files.each among)).1

-- All mods

module _ (a : Disk) where
  pub sources_belong : (scans : List Scan) (sources : List Sources) → AreScanned a scans sources → AreSources scans sources
  sources_belong [] [] is = tt
  sources_belong [] (own ∷ sources) is = is
  sources_belong (scan ∷ scans) [] is = is
  sources_belong (scan ∷ scans) (own ∷ sources) is = (its_sources a scan own is.0, sources_belong scans sources is.1)

  -- one mod more
  pub scanned_more : (scans : List Scan) (sources : List Sources) (scan : Scan) (own : Sources) → AreScanned a scans sources → IsScanned a scan own → AreScanned a (scans ++ scan ∷ []) (sources ++ own ∷ [])
  scanned_more [] [] scan own is last = (last, tt)
  scanned_more [] (o ∷ sources) scan own is last = absurd is
  scanned_more (s ∷ scans) [] scan own is last = absurd is
  scanned_more (s ∷ scans) (o ∷ sources) scan own is last = (is.0, scanned_more scans sources scan own is.1 last)

  module _ (id path : List ℕ) where
    -- the file of a mod has a source where the mods differ
    has_source : (scans : List Scan) (sources : List Sources) → AreScanned a scans sources → HasOwnIds scans → (scan : Scan) → Contains scans scan → scan.mod_id ≡ id → Contains scan.files path → IsSome (source_in scans sources id path)
    unfolding IsDistinct
    has_source [] sources is differ scan c same file = absurd (contains_none scan c)
    has_source (s ∷ scans) [] is differ scan c same file = absurd is
    has_source (s ∷ scans) (o ∷ sources) is differ scan c same file = by_test (λ later. has_source scans sources is.1 differ.1 scan later same file) (bytes_eq_tells s.mod_id id) (contains_cases s scan scans c)
      where
        Claim : Bool → Type 0
        Claim t = IsSome (cond t (source_at s.files o.paths.items path) (source_in scans sources id path))

        here : scan ≡ s → IsSome (source_at s.files o.paths.items path)
        here e =
            let at = targets_of a s o is.0 in
            subst (λ l. IsSome (source_at l o.paths.items path)) (sym at) (has_source_at (target is.0.base) o.paths.items path (subst (λ l. Contains l path) at (subst (λ (x : Scan). Contains x.files path) e file)))

        -- no later mod has the id of the first
        never : Contains scans scan → s.mod_id ≡ id → ⊥
        never later e =
            let f : false ≡ true = sym (all_item (λ y. bytes_eq s.mod_id y ≡ false) (map (λ (x : Scan). x.mod_id) scans) scan.mod_id differ.0 (map_contains (λ (x : Scan). x.mod_id) scans scan later)) ∙ ap (bytes_eq s.mod_id) (same ∙ sym e) ∙ bytes_eq-itself s.mod_id in
            cc

        by_test : (Contains scans scan → IsSome (source_in scans sources id path)) → ((bytes_eq s.mod_id id ≡ true) × (s.mod_id ≡ id)) ⊎ ((bytes_eq s.mod_id id ≡ false) × ¬ (s.mod_id ≡ id)) → (scan ≡ s) ⊎ Contains scans scan → Claim (bytes_eq s.mod_id id)
        by_test next (inl t) (inl e) = subst Claim (sym t.0) (here e)
        by_test next (inl t) (inr later) = absurd (never later t.1)
        by_test next (inr t) (inl e) = absurd (t.1 (ap (λ (x : Scan). x.mod_id) (sym e) ∙ same))
        by_test next (inr t) (inr later) = subst Claim (sym t.0) (next later)

    -- a source is a file
    source_file : (scans : List Scan) (sources : List Sources) (s : List ℕ) → AreScanned a scans sources → source_in scans sources id path ≡ Some s → IsFile a (staged_spot id s)
    source_file [] sources s is e = absurd (cc)
    source_file (scan ∷ scans) [] s is e = absurd is
    source_file (scan ∷ scans) (own ∷ sources) s is e = by_test (λ f. source_file scans sources s is.1 f) (bytes_eq_tells scan.mod_id id)
      where
        Found : Bool → Type 0
        Found t = cond t (source_at scan.files own.paths.items path) (source_in scans sources id path) ≡ Some s

        by_test : (source_in scans sources id path ≡ Some s → IsFile a (staged_spot id s)) → ((bytes_eq scan.mod_id id ≡ true) × (scan.mod_id ≡ id)) ⊎ ((bytes_eq scan.mod_id id ≡ false) × ¬ (scan.mod_id ≡ id)) → IsFile a (staged_spot id s)
        by_test next (inl t) = subst (λ i. IsFile a (staged_spot i s)) t.1 (source_is_file a scan own path s is.0 (subst Found t.0 e))
        by_test next (inr t) = next (subst Found t.0 e)

-- Winners

contains_at : {X : Type 0} (xs : List X) (k : ℕ) (x : X) → slice_get xs k ≡ Some x → Contains xs x
contains_at [] k x e = absurd (cc)
contains_at (y ∷ ys) zero x e = let is : y ≡ x = cc in subst (Contains (y ∷ ys)) is (contains_here y ys)
contains_at (y ∷ ys) (suc k) x e = contains_there y x ys (contains_at ys k x e)

-- a scan of the mod with this file
record HasFile (scans : List Scan) (id path : List ℕ) : Type 0 where
  scan : Scan
  among : Contains scans scan
  same : scan.mod_id ≡ id
  file : Contains scan.files path

module _ (scans : List Scan) (order : List ℕ) (overrides : List OverrideData) where
  of_node : (node : ℕ) (id path : List ℕ) (o : Option Scan) → slice_get scans node ≡ o → id_of o ≡ id → Contains (files_of o) path → HasFile scans id path
  of_node node id path None e same file = absurd (contains_none path file)
  of_node node id path (Some scan) e same file = record { scan = scan; among = contains_at scans node scan e; same = same; file = file }

  of_provider : (node : ℕ) (id path : List ℕ) → Contains (providers scans order path) node → id_at scans node ≡ id → HasFile scans id path
  of_provider node id path c same = of_node node id path (slice_get scans node) refl same (provider_is scans order path node c).1

  of_winner : (path id : List ℕ) (by : By) → IsWinner scans order overrides path id by → HasFile scans id path
  of_winner path id Override win = let n = contains_map (id_at scans) (providers scans order path) id win.provides in of_provider n.0 id path n.1 n.2
  of_winner path id Order win = of_provider win.node id path (subst (λ l. Contains l win.node) (sym win.last) (last_here win.front win.node)) (sym win.is)
    where
      last_here : (front : List ℕ) (node : ℕ) → Contains (front ++ node ∷ []) node
      last_here [] node = contains_here node []
      last_here (x ∷ front) node = contains_there x node (front ++ node ∷ []) (last_here front node)

  module _ (a : Disk) (sources : List Sources) (rows : List WinRow) (is : AreScanned a scans sources) (differ : HasOwnIds scans) (wins : AreWinners scans order overrides rows) where
    source_of : (row : WinRow) → Contains rows row → IsSome (source_in scans sources row.mod_id row.path)
    source_of row c =
        let h = of_winner row.path row.mod_id row.by (all_item (λ (r : WinRow). IsWinner scans order overrides r.path r.mod_id r.by) rows row wins.each c) in
        has_source a row.mod_id row.path scans sources is differ h.scan h.among h.same h.file

    pub winners_have_sources : AreFrom scans sources rows
    winners_have_sources = all_from_contains (λ (row : WinRow). IsSome (source_in scans sources row.mod_id row.path)) rows source_of

    staged : (row : WinRow) → Contains rows row → IsFile a (won_spot (win_from row (unwrap_or (source_in scans sources row.mod_id row.path) [])))
    staged row c =
        let s = some_is (source_in scans sources row.mod_id row.path) (source_of row c) in
        subst (λ o. IsFile a (staged_spot row.mod_id (unwrap_or o []))) (sym s.1) (source_file a row.mod_id row.path scans sources s.0 is s.1)

    pub winners_are_staged : AllByRecursion (λ (w : Win). IsFile a (won_spot w)) (wins_of scans sources rows)
    winners_are_staged = all_map (λ (w : Win). IsFile a (won_spot w)) (λ row. win_from row (unwrap_or (source_in scans sources row.mod_id row.path) [])) rows (all_from_contains _ rows staged)
