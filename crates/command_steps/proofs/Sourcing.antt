-- Winners and their sources, by the scans and sources alone.
use Rattle.std.proofs.Common.{◌≡◌, ◌⊎◌, ℕ, zero, suc, Bool, true, false, cond, List, [], ◌∷◌, map, IsSome, is_some, slice_get, refl, sym, ap, ◌∙◌, inl, inr, subst}
use Rattle.std.specs.List.{Contains, IsDistinct}
use Rattle.std.specs.Prelude.{nat_eq}
use Rattle.std.specs.Cmp.Lexicographic.{pointwise}
use Rattle.std.specs.Str.{bytes_eq}
use Rattle.std.specs.declared.option.Option.{Option}
use Rattle.std.specs.declared.option.Option.TheVariants.{None, Some}
use Rattle.list_laws.proofs.Alls.{all_item, all_from_contains}
use Rattle.list_laws.proofs.Containing.{contains_here, contains_there, contains_cases, contains_none, contains_map, map_contains, contains_seam}
use Rattle.list_laws.proofs.Texts.{bytes_eq-itself, bytes_eq_tells}
use Rattle.profile_toml.specs.Records.{OverrideData}
use Rattle.stage_scan.specs.declared.scan.Scan.{Scan}
use Rattle.stage_scan.specs.declared.placed.Sources.{Sources}
use Rattle.stage_scan.specs.Placed.{target}
use Rattle.winner_table.specs.declared.wins.WinRow.{WinRow}
use Rattle.winner_table.specs.declared.wins.By.{By}
use Rattle.winner_table.specs.declared.wins.By.TheVariants.{Override, Order}
use Rattle.winner_table.specs.Winners.{id_at, id_of, files_of, providers, IsWinner, AreWinners}
use Rattle.winner_table.proofs.Offered.{provider_is}
use Rattle.deploy_plan.specs.Sources.{AreSources, AreFrom, source_at, source_in}

-- a file has a source
has_source_at : (f : List ℕ → List ℕ) (items : List (List ℕ)) (path : List ℕ) → Contains (map f items) path → IsSome (source_at (map f items) items path)
has_source_at f [] path c = absurd (contains_none path c)
has_source_at f (x ∷ xs) path c = elim (bytes_eq_tells (f x) path) [
  | inl same ↦ ap (λ t. is_some (cond t (Some x) (source_at (map f xs) xs path))) same.0
  | inr apart ↦ ap (λ t. is_some (cond t (Some x) (source_at (map f xs) xs path))) apart.0 ∙ elim (contains_cases (f x) path (map f xs) c) [
    | inl here ↦ absurd (apart.1 (sym here))
    | inr there ↦ has_source_at f xs path there
  ]
]

module _ (id path : List ℕ) where
  -- the file of a mod has a source where the mods differ
  has_source : (scans : List Scan) (sources : List Sources) → AreSources scans sources → IsDistinct (pointwise nat_eq) (map (λ (s : Scan). s.mod_id) scans) → (scan : Scan) → Contains scans scan → scan.mod_id ≡ id → Contains scan.files path
      → IsSome (source_in scans sources id path)
  unfolding IsDistinct
  has_source [] sources is differ scan c same file = absurd (contains_none scan c)
  has_source (s ∷ scans) [] is differ scan c same file = absurd is
  has_source (s ∷ scans) (o ∷ sources) is differ scan c same file = by_test (λ later. has_source scans sources is.1 differ.1 scan later same file) (bytes_eq_tells s.mod_id id) (contains_cases s scan scans c)
    where
      Claim : Bool → Type 0
      Claim t = IsSome (cond t (source_at s.files o.paths.items path) (source_in scans sources id path))

      here : scan ≡ s → IsSome (source_at s.files o.paths.items path)
      here e = subst (λ l. IsSome (source_at l o.paths.items path)) (sym is.0.targets) (has_source_at (target is.0.base) o.paths.items path (subst (λ l. Contains l path) is.0.targets (subst (λ (x : Scan). Contains x.files path) e file)))

      -- no later mod has the id of the first
      never : Contains scans scan → s.mod_id ≡ id → ⊥
      never later e =
          let f : false ≡ true = sym (all_item (λ y. bytes_eq s.mod_id y ≡ false) (map (λ (x : Scan). x.mod_id) scans) scan.mod_id differ.0 (map_contains (λ (x : Scan). x.mod_id) scans scan later)) ∙ ap (bytes_eq s.mod_id) (same ∙ sym e) ∙ bytes_eq-itself s.mod_id in
          cc

      by_test : (Contains scans scan → IsSome (source_in scans sources id path)) → ((bytes_eq s.mod_id id ≡ true) × (s.mod_id ≡ id)) ⊎ ((bytes_eq s.mod_id id ≡ false) × ¬ (s.mod_id ≡ id)) → (scan ≡ s) ⊎ Contains scans scan → Claim (bytes_eq s.mod_id id)
      by_test next (inl t) (inl e) = subst Claim (sym t.0) (here e)
      by_test next (inl t) (inr later) = absurd (never later t.1)
      by_test next (inr t) (inl e) = absurd (t.1 (ap (λ (x : Scan). x.mod_id) (sym e) ∙ same))
      by_test next (inr t) (inr later) = subst Claim (sym t.0) (next later)

contains_at : {X : Type 0} (xs : List X) (k : ℕ) (x : X) → slice_get xs k ≡ Some x → Contains xs x
contains_at [] k x e = absurd (cc)
contains_at (y ∷ ys) zero x e = let is : y ≡ x = cc in subst (Contains (y ∷ ys)) is (contains_here y ys)
contains_at (y ∷ ys) (suc k) x e = contains_there y x ys (contains_at ys k x e)

-- a scan of the mod with this file
record HasFile (scans : List Scan) (id path : List ℕ) : Type 0 where
  scan : Scan
  among : Contains scans scan
  same : scan.mod_id ≡ id
  file : Contains scan.files path

module _ (scans : List Scan) (order : List ℕ) (overrides : List OverrideData) where
  of_node : (node : ℕ) (id path : List ℕ) (o : Option Scan) → slice_get scans node ≡ o → id_of o ≡ id → Contains (files_of o) path → HasFile scans id path
  of_node node id path None e same file = absurd (contains_none path file)
  of_node node id path (Some scan) e same file = record { scan = scan; among = contains_at scans node scan e; same = same; file = file }

  of_provider : (node : ℕ) (id path : List ℕ) → Contains (providers scans order path) node → id_at scans node ≡ id → HasFile scans id path
  of_provider node id path c same = of_node node id path (slice_get scans node) refl same (provider_is scans order path node c).1

  of_winner : (path id : List ℕ) (by : By) → IsWinner scans order overrides path id by → HasFile scans id path
  of_winner path id Override win = let n = contains_map (id_at scans) (providers scans order path) id win.provides in of_provider n.0 id path n.1 n.2
  of_winner path id Order win = of_provider win.node id path (subst (λ l. Contains l win.node) (sym win.last) (contains_seam win.front win.node [])) (sym win.is)

  -- each winner has a source
  pub from_sources : (sources : List Sources) (rows : List WinRow) → AreSources scans sources → IsDistinct (pointwise nat_eq) (map (λ (s : Scan). s.mod_id) scans) → AreWinners scans order overrides rows → AreFrom scans sources rows
  from_sources sources rows is differ wins = all_from_contains (λ (row : WinRow). IsSome (source_in scans sources row.mod_id row.path)) rows
      (λ row c. let h = of_winner row.path row.mod_id row.by (all_item (λ (r : WinRow). IsWinner scans order overrides r.path r.mod_id r.by) rows row wins.each c) in has_source row.mod_id row.path scans sources is differ h.scan h.among h.same h.file)
