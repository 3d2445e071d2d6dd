-- From the providers of each path to the reports, and from marks to walks.
use Rattle.std.proofs.Common.{◌≡◌, ◌≢◌, ◌<◌, ◌+◌, ◌-◌, ◌↔◌, inl, inr, ℕ, List, [], ◌∷◌, ◌++◌, Bool, true, false, cond, filter, map, length, get_or, take, drop, refl, sym, ap, subst, ◌∙◌, arith, nat_lt}
use Rattle.std.specs.List.{AllByRecursion, Contains}
use Rattle.std.specs.Cmp.Lexicographic.{nat_list_cmp_total}
use Rattle.std.proofs.lemmas.List.{get_or-map, map-append, length-map}
use Rattle.std.proofs.lemmas.Option.{slice_get_cases}
use Rattle.list_laws.proofs.Alls.{all_item, all_weaken, all_more, all_from_contains}
use Rattle.list_laws.proofs.Containing.{contains_here, contains_there, contains_map, contains_none, filter_contains, in_this}
use Rattle.list_laws.proofs.Texts.{any-from_text_in}
use Rattle.list_laws.proofs.Sorted.{sorted_same}
use Rattle.mod_rules.specs.Edges.{GraphData}
use Rattle.load_order.specs.Orders.{IsLawful}
use Rattle.stage_scan.specs.declared.scan.Scan.{Scan}
use Rattle.winner_table.specs.declared.providers.Providers.{Providers}
use Rattle.winner_table.specs.declared.wins.By.{By}
use Rattle.winner_table.specs.declared.wins.WinRow.{WinRow}
use Rattle.winner_table.specs.Winners.{files_of, files_at, id_at, paths_of, provides, providers, IsProvided, HasEachOnce}
use Rattle.winner_table.specs.Offers.{IsNodeOf}
use Rattle.winner_table.specs.Providers.{path_of, HasItsProviders, IsProvidedPath, AreAllProviders}
use Rattle.winner_table.proofs.Offered.{provider_is}
use Rattle.conflict_report.specs.declared.relation.Relation.{Relation}
use Rattle.conflict_report.specs.declared.report.PathReport.{PathReport}
use Rattle.conflict_report.specs.declared.report.Why.{Why}
use Rattle.conflict_report.specs.declared.report.Why.TheVariants.{Override, Rule, Position}
use Rattle.conflict_report.specs.Leading.{Leads}
use Rattle.conflict_report.specs.Relations.{Holds, TellsLeads}
use Rattle.conflict_report.specs.Reports.{AreWins, HasProvider, is_contested, paths_in, IsLastWith, EachLeads, IsReason, IsReportOf, IsReport, IsUndecided}
use Rattle.conflict_report.specs.Entries.{has_more, IsMatch, HasReport}
use Rattle.conflict_report.specs.Shares.{SharesOneOf, AreNodesBelow, IsOpen}
use Rattle.conflict_report.proofs.Ends.{from_end, drop_from_end, filter_then, filter_else}

-- The winner among the nodes

module _ (scans : List Scan) (nodes id : List ℕ) (i : ℕ) (low : i < length nodes) where
  pub last_found : id_at scans (get_or nodes (length nodes - 1 - i) 0) ≡ id → AllByRecursion (λ node. id_at scans node ≢ id) (drop (length nodes - i) nodes) → IsLastWith scans nodes id (get_or nodes (length nodes - 1 - i) 0)
  last_found has later = record {
    front = take (length nodes - 1 - i) nodes;
    back = drop (length nodes - i) nodes;
    parts = from_end nodes i low;
    has = has;
    later = later;
  }

  pub later_more : (id_at scans (get_or nodes (length nodes - 1 - i) 0) ≢ id) → AllByRecursion (λ node. id_at scans node ≢ id) (drop (length nodes - i) nodes) → AllByRecursion (λ node. id_at scans node ≢ id) (drop (length nodes - (i + 1)) nodes)
  later_more other later = subst (AllByRecursion (λ node. id_at scans node ≢ id)) (sym (drop_from_end nodes i low)) (other, later)

pub none_with : (scans : List Scan) (nodes id : List ℕ) → AllByRecursion (λ node. id_at scans node ≢ id) nodes → Contains (map (id_at scans) nodes) id → ⊥
none_with scans nodes id later c = let e = contains_map (id_at scans) nodes id c in all_item (λ node. id_at scans node ≢ id) nodes e.0 later e.1 e.2

-- Reasons by one relation and by another that holds where it does

module _ (R S : ℕ → ℕ → Type 0) (same : (a b : ℕ) → R a b ↔ S a b) where
  each_other : (nodes : List ℕ) (winner : ℕ) → EachLeads R nodes winner → EachLeads S nodes winner
  each_other nodes winner h node c ne = (same node winner).0 (h node c ne)

  each_back : (nodes : List ℕ) (winner : ℕ) → EachLeads S nodes winner → EachLeads R nodes winner
  each_back nodes winner h node c ne = (same node winner).1 (h node c ne)

  pub reason_other : (nodes : List ℕ) (winner : ℕ) (by : By) (why : Why) → IsReason R nodes winner by why → IsReason S nodes winner by why
  reason_other nodes winner by Override h = h
  reason_other nodes winner by Rule h = (h.0, each_other nodes winner h.1)
  reason_other nodes winner by Position h = (h.0, λ s. h.1 (each_back nodes winner s))

  pub report_other : (scans : List Scan) (nodes : List ℕ) (row : WinRow) (report : PathReport) → IsReportOf scans R nodes row report → IsReportOf scans S nodes row report
  report_other scans nodes row report h = record {
    path = h.path;
    providers = h.providers;
    winner = h.winner;
    why = reason_other nodes report.winner row.by report.why h.why;
  }

-- One report more

module _ (all : List Providers) (wins : List WinRow) (same : map path_of all ≡ paths_of wins) (i : ℕ) (entry : Providers) (row : WinRow)
    (low_all : i < length all) (low : i < length wins) (entry_is : entry ≡ get_or all i entry) (row_is : row ≡ get_or wins i row) where
  pub one_path : path_of entry ≡ row.path
  one_path =
      ap path_of entry_is ∙ sym (get_or-map path_of all i entry [] low_all) ∙ ap (λ l. get_or l i []) same ∙ get_or-map (λ (r : WinRow). r.path) wins i row [] low ∙ sym (ap (λ (r : WinRow). r.path) row_is)

  pub paths_then : (reports : List PathReport) (report : PathReport) → report.path ≡ row.path → has_more entry ≡ true → paths_in reports ≡ map path_of (filter has_more (take i all)) → paths_in (reports ++ report ∷ []) ≡ map path_of (filter has_more (take (i + 1) all))
  paths_then reports report at more before =
      map-append (λ (r : PathReport). r.path) reports (report ∷ []) ∙ (λ j. before j ++ (at ∙ sym one_path) j ∷ [])
      ∙ sym (map-append path_of (filter has_more (take i all)) (entry ∷ []))
      ∙ ap (map path_of) (sym (filter_then all i entry low_all entry_is has_more more))

  pub paths_else : (reports : List PathReport) → has_more entry ≡ false → paths_in reports ≡ map path_of (filter has_more (take i all)) → paths_in reports ≡ map path_of (filter has_more (take (i + 1) all))
  paths_else reports one before = before ∙ ap (map path_of) (sym (filter_else all i entry low_all entry_is has_more one))

  pub match_at : (scans : List Scan) → ((e : Providers) (r : WinRow) → Contains all e → Contains wins r → path_of e ≡ r.path → IsMatch scans e r) → IsMatch scans entry row
  match_at scans matches = matches entry row (in_this all i entry low_all entry_is) (in_this wins i row low row_is) one_path

  pub report_more : (scans : List Scan) (leads : ℕ → ℕ → Type 0) (nodes : List ℕ) (reports : List PathReport) (report : PathReport) → nodes ≡ entry.nodes.items → IsReportOf scans leads nodes row report
      → AllByRecursion (HasReport scans leads all wins) reports → AllByRecursion (HasReport scans leads all wins) (reports ++ report ∷ [])
  report_more scans leads nodes reports report own is before = all_more (HasReport scans leads all wins) reports report before (record {
    entry = entry;
    entry_among = in_this all i entry low_all entry_is;
    row = row;
    row_among = in_this wins i row low row_is;
    at = one_path;
    is = subst (λ l. IsReportOf scans leads l row report) own is;
  })

pub same_length : (all : List Providers) (wins : List WinRow) → map path_of all ≡ paths_of wins → length all ≡ length wins
same_length all wins e = sym (length-map all path_of) ∙ ap length e ∙ length-map wins (λ (r : WinRow). r.path)

-- All reports

map_put : (b : Bool) (x : Providers) (xs : List Providers) → map path_of (cond b (x ∷ xs) xs) ≡ cond b (path_of x ∷ map path_of xs) (map path_of xs)
map_put true x xs = refl
map_put false x xs = refl

module _ (scans : List Scan) (order : List ℕ) (all : List Providers) (wins : List WinRow) (are : AreAllProviders scans order all) (wons : AreWins scans order wins) where
  own : (entry : Providers) → Contains all entry → entry.nodes.items ≡ providers scans order (path_of entry)
  own entry c = all_item (HasItsProviders scans order) all entry are.each c

  provided : (path : List ℕ) → Contains (map path_of all) path → IsProvided scans order path
  provided path c = let e = contains_map path_of all path c in subst (IsProvided scans order) e.2 (all_item (IsProvidedPath scans order) all e.0 are.provided e.1)

  won : (path : List ℕ) → Contains (paths_of wins) path → IsProvided scans order path
  won path c =
      let e = contains_map (λ (r : WinRow). r.path) wins path c in
      let n = contains_map (id_at scans) (providers scans order e.0.path) e.0.mod_id (all_item (HasProvider scans order) wins e.0 wons.each e.1) in
      let r = provider_is scans order e.0.path n.0 n.1 in
      subst (IsProvided scans order) e.2 (record { node = n.0; among = r.0; file = r.1 })

  pub same_paths : map path_of all ≡ paths_of wins
  same_paths = sorted_same nat_list_cmp_total (map path_of all) (paths_of wins) are.order_of_paths wons.order_of_paths (λ p c. wons.whole p (provided p c)) (λ p c. are.whole p (won p c))

  nodes_are : HasEachOnce (length scans) order → (entry : Providers) → Contains all entry → AllByRecursion (IsNodeOf scans) entry.nodes.items
  nodes_are once entry c = all_from_contains (IsNodeOf scans) entry.nodes.items (λ k at. once.only k (provider_is scans order (path_of entry) k (subst (λ l. Contains l k) (own entry c) at)).0)

  pub matched : HasEachOnce (length scans) order → (entry : Providers) (row : WinRow) → Contains all entry → Contains wins row → path_of entry ≡ row.path → IsMatch scans entry row
  matched once entry row e r at = record {
    nodes = nodes_are once entry e;
    some = subst (λ l. Contains (map (id_at scans) l) row.mod_id) (sym (own entry e ∙ ap (providers scans order) at)) (all_item (HasProvider scans order) wins row wons.each r);
  }

  pub nodes_below : HasEachOnce (length scans) order → (count : ℕ) → count ≡ length scans → AllByRecursion (AreNodesBelow count) all
  nodes_below once count is = all_from_contains (AreNodesBelow count) all (λ entry c. all_weaken (IsNodeOf scans) (λ node. node < count) entry.nodes.items (λ node lt. omega (arith, lt, is)) (nodes_are once entry c))

  contested_paths : (xs : List Providers) → ((entry : Providers) → Contains xs entry → entry.nodes.items ≡ providers scans order (path_of entry)) → map path_of (filter has_more xs) ≡ filter (is_contested scans order) (map path_of xs)
  contested_paths [] owns = refl
  contested_paths (x ∷ xs) owns =
      let rest = contested_paths xs (λ entry c. owns entry (contains_there x entry xs c)) in
      map_put (has_more x) x (filter has_more xs)
      ∙ (λ j. cond (nat_lt 1 (length (owns x (contains_here x xs) j))) (path_of x ∷ rest j) (rest j))

  pub contested : map path_of (filter has_more all) ≡ filter (is_contested scans order) (paths_of wins)
  contested = contested_paths all own ∙ ap (filter (is_contested scans order)) same_paths

  module _ (g : GraphData) (reach : Relation) (told : TellsLeads g reach) where
    pub reports_are : (reports : List PathReport) → AllByRecursion (HasReport scans (Holds reach) all wins) reports → AllByRecursion (IsReport scans order (Leads g) wins) reports
    reports_are reports each = all_weaken (HasReport scans (Holds reach) all wins) (IsReport scans order (Leads g) wins) reports
        (λ report h. record {
          row = h.row;
          among = h.row_among;
          is = subst (λ l. IsReportOf scans (Leads g) l h.row report) (own h.entry h.entry_among ∙ ap (providers scans order) h.at)
              (report_other (Holds reach) (Leads g) told.exact scans h.entry.nodes.items h.row report h.is);
        }) each

    -- nodes that share a path are providers of one
    shared_path : (a b : ℕ) → SharesOneOf all a b → (path : List ℕ) × Contains (files_at scans a) path × Contains (files_at scans b) path
    shared_path a b s =
        let is = own s.entry s.among in
        let at = λ (k : ℕ) (c : Contains s.entry.nodes.items k). (provider_is scans order (path_of s.entry) k (subst (λ l. Contains l k) is c)).1 in
        (path_of s.entry, at a s.pair.0, at b s.pair.1)

    provider_of : (k : ℕ) (path : List ℕ) → Contains order k → Contains (files_at scans k) path → Contains (providers scans order path) k
    provider_of k path c file = filter_contains (provides scans path) order k c (any-from_text_in (files_at scans k) path file)

    sharing : ((k : ℕ) (path : List ℕ) → Contains (files_at scans k) path → Contains order k) → (a b : ℕ) → IsUndecided scans (Leads g) a b → SharesOneOf all a b
    sharing placed a b u =
        let ca = placed a u.path u.first in
        let e = contains_map path_of all u.path (are.whole u.path (record { node = a; among = ca; file = u.first })) in
        let is : providers scans order u.path ≡ e.0.nodes.items = sym (own e.0 e.1 ∙ ap (providers scans order) e.2) in
        record {
          entry = e.0;
          among = e.1;
          pair = (subst (λ l. Contains l a) is (provider_of a u.path ca u.first), subst (λ l. Contains l b) is (provider_of b u.path (placed b u.path u.second) u.second), u.below);
        }

    pub undecided : ((k : ℕ) (path : List ℕ) → Contains (files_at scans k) path → Contains order k) → (shared : Relation) → ((a b : ℕ) → Holds shared a b ↔ SharesOneOf all a b) → (a b : ℕ) → IsOpen shared reach a b ↔ IsUndecided scans (Leads g) a b
    undecided placed shared shares a b = (
      λ o. (let s = (shares a b).0 o.shares in let p = shared_path a b s in record {
        below = s.pair.2;
        path = p.0;
        first = p.1;
        second = p.2;
        not_there = λ w. o.not_there ((told.exact a b).1 w);
        not_back = λ w. o.not_back ((told.exact b a).1 w);
      }),
      λ u. record {
        shares = (shares a b).1 (sharing placed a b u);
        not_there = λ h. u.not_there ((told.exact a b).0 h);
        not_back = λ h. u.not_back ((told.exact b a).0 h);
      },
    )

-- a node that has a file is one of the scans'
pub has_scan : (scans : List Scan) (k : ℕ) (path : List ℕ) → Contains (files_at scans k) path → k < length scans
has_scan scans k path c = elim (slice_get_cases scans k).1 [
  | inl s ↦ s.1
  | inr past ↦ absurd (contains_none path (subst (λ o. Contains (files_of o) path) past.1 c))
]

pub each_once : (g : GraphData) (order : List ℕ) (count : ℕ) → g.count ≡ count → IsLawful g order → HasEachOnce count order
each_once g order count is lawful = record {
  every = λ node lt. lawful.every node (omega (arith, lt, is));
  only = λ node c. (let lt = lawful.only node c in omega (arith, lt, is));
  once = lawful.once;
}
