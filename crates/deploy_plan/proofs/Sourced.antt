-- The sources of winners.
use Rattle.std.proofs.Common.{◌≡◌, ℕ, zero, suc, ◌+◌, ◌<◌, ◌≤◌, Bool, true, false, cond, List, [], ◌∷◌, length, get_or, map, filter_map, option_map, unwrap_or, IsSome, refl, sym, ap, ◌∙◌, subst, arith, add-one}
use Rattle.std.specs.List.{Contains, slice_get, cons_option, ItemBy}
use Rattle.std.proofs.lemmas.Option.{slice_get_past, slice_get_read}
use Rattle.std.specs.Str.{bytes_eq}
use Rattle.std.specs.declared.option.Option.{Option}
use Rattle.std.specs.declared.option.Option.TheVariants.{None, Some}
use Rattle.std.specs.declared.result.Result.TheVariants.{Err}
use Rattle.std.specs.List.Sorted.{IsStrictlySortedBy, IsSearchInRange, IsBinarySearchResult}
use Rattle.plan_lists.proofs.Searched.{text_searched}
use Rattle.std.specs.Ordering.{nat_cmp}
use Rattle.std.specs.Cmp.Lexicographic.{slice_cmp}
use Rattle.std.specs.declared.cmp.Ordering.TheVariants.{Less}
use Rattle.list_laws.proofs.Alls.{all_at}
use Rattle.list_laws.proofs.Containing.{contains_here, contains_there}
use Rattle.list_laws.proofs.Orders.{text_less-apart}
use Rattle.list_laws.proofs.Texts.{bytes_eq-itself, bytes_eq-apart}
use Rattle.manifest_json.specs.Paths.{AreRising}
use Rattle.stage_scan.specs.declared.scan.Scan.{Scan}
use Rattle.stage_scan.specs.declared.placed.Sources.{Sources}
use Rattle.winner_table.specs.declared.wins.WinRow.{WinRow}
use Rattle.desk_model.specs.Deployed.{Win}
use Rattle.deploy_plan.specs.Sources.{source_at, source_in, AreFrom, win_from, found_win, wins_of, first_index}

map_same : {X : Type 0} (xs : List X) → map (λ x. x) xs ≡ xs
map_same [] = refl
map_same (x ∷ xs) = ap (λ l. x ∷ l) (map_same xs)

-- where each has a source, each is found
pub all_found : (scans : List Scan) (sources : List Sources) (rows : List WinRow) (found : List Win) → AreFrom scans sources rows → found ≡ filter_map (found_win scans sources) (map (λ (r : WinRow). r) rows) → found ≡ wins_of scans sources rows
all_found scans sources rows found from is = is ∙ ap (filter_map (found_win scans sources)) (map_same rows) ∙ each rows from
  where
    one : (row : WinRow) (o : Option (List ℕ)) (rest : List Win) → IsSome o → cons_option (option_map (win_from row) o) rest ≡ win_from row (unwrap_or o []) ∷ rest
    one row None rest h = absurd (cc)
    one row (Some s) rest h = refl

    each : (rows : List WinRow) → AreFrom scans sources rows → filter_map (found_win scans sources) rows ≡ wins_of scans sources rows
    each [] h = refl
    each (row ∷ rows) h = one row (source_in scans sources row.mod_id row.path) (filter_map (found_win scans sources) rows) h.0 ∙ ap (λ l. win_from row (unwrap_or (source_in scans sources row.mod_id row.path) []) ∷ l) (each rows h.1)

-- the source by the index of the scan
shift : {X : Type 0} (x : X) (xs : List X) (j k : ℕ) (y : X) → j + 1 ≡ k → slice_get (x ∷ xs) k ≡ Some y → slice_get xs j ≡ Some y
shift x xs j k y n e = subst (λ m. slice_get (x ∷ xs) m ≡ Some y) (sym n ∙ add-one j) e

head_is : {X : Type 0} (x : X) (xs : List X) (k : ℕ) (y : X) → 0 ≡ k → slice_get (x ∷ xs) k ≡ Some y → x ≡ y
head_is x xs k y n e = let at : Some x ≡ Some y = subst (λ m. slice_get (x ∷ xs) m ≡ Some y) (sym n) e in cc

module _ (id path : List ℕ) where
  pub source_by_index : (scans : List Scan) (sources : List Sources) (k : ℕ) (scan : Scan) (own : Sources) → first_index scans id ≡ Some k → slice_get scans k ≡ Some scan → slice_get sources k ≡ Some own → source_in scans sources id path ≡ source_at scan.files own.paths.items path
  source_by_index [] sources k scan own e a b = let no : None ≡ Some k = e in absurd (cc)
  source_by_index (s ∷ scans) [] k scan own e a b = let no : None ≡ Some own = b in absurd (cc)
  source_by_index (s ∷ scans) (o ∷ sources) k scan own e a b = by_test (λ j f u v. source_by_index scans sources j scan own f u v) (bytes_eq s.mod_id id) (first_index scans id) refl e
    where
      by_test : ((j : ℕ) → first_index scans id ≡ Some j → slice_get scans j ≡ Some scan → slice_get sources j ≡ Some own → source_in scans sources id path ≡ source_at scan.files own.paths.items path) → (t : Bool) (f : Option ℕ) → first_index scans id ≡ f → cond t (Some 0) (option_map (λ j. j + 1) f) ≡ Some k → cond t (source_at s.files o.paths.items path) (source_in scans sources id path) ≡ source_at scan.files own.paths.items path
      by_test next true f fe e = let n : 0 ≡ k = cc in λ i. source_at (head_is s scans k scan n a i).files (head_is o sources k own n b i).paths.items path
      by_test next false None fe e = let no : None ≡ Some k = e in absurd (cc)
      by_test next false (Some j) fe e = let n : j + 1 ≡ k = cc in next j fe (shift s scans j k scan n a) (shift o sources j k own n b)

  pub index_within : (scans : List Scan) (k : ℕ) → first_index scans id ≡ Some k → k < length scans
  index_within [] k e = let no : None ≡ Some k = e in absurd (cc)
  index_within (s ∷ scans) k e = by_test (λ j f. index_within scans j f) (bytes_eq s.mod_id id) (first_index scans id) refl e
    where
      by_test : ((j : ℕ) → first_index scans id ≡ Some j → j < length scans) → (t : Bool) (f : Option ℕ) → first_index scans id ≡ f → cond t (Some 0) (option_map (λ j. j + 1) f) ≡ Some k → k < length (s ∷ scans)
      by_test next true f fe e = let n : 0 ≡ k = cc in omega arith
      by_test next false None fe e = let no : None ≡ Some k = e in absurd (cc)
      by_test next false (Some j) fe e = let n : j + 1 ≡ k = cc in let less = next j fe in omega arith

  pub no_source : (scans : List Scan) (sources : List Sources) → first_index scans id ≡ None → source_in scans sources id path ≡ None
  no_source [] sources e = refl
  no_source (s ∷ scans) [] e = refl
  no_source (s ∷ scans) (o ∷ sources) e = by_test (λ f. no_source scans sources f) (bytes_eq s.mod_id id) (first_index scans id) refl e
    where
      by_test : (first_index scans id ≡ None → source_in scans sources id path ≡ None) → (t : Bool) (f : Option ℕ) → first_index scans id ≡ f → cond t (Some 0) (option_map (λ j. j + 1) f) ≡ None → cond t (source_at s.files o.paths.items path) (source_in scans sources id path) ≡ None
      by_test next true f fe e = let no : Some 0 ≡ None = e in absurd (cc)
      by_test next false None fe e = next fe
      by_test next false (Some j) fe e = let no : Some (j + 1) ≡ None = e in absurd (cc)

  pub sources_short : (scans : List Scan) (sources : List Sources) (k : ℕ) → first_index scans id ≡ Some k → length sources ≤ k → source_in scans sources id path ≡ None
  sources_short [] sources k e le = refl
  sources_short (s ∷ scans) [] k e le = refl
  sources_short (s ∷ scans) (o ∷ sources) k e le = by_test (λ j f l. sources_short scans sources j f l) (bytes_eq s.mod_id id) (first_index scans id) refl e
    where
      by_test : ((j : ℕ) → first_index scans id ≡ Some j → length sources ≤ j → source_in scans sources id path ≡ None) → (t : Bool) (f : Option ℕ) → first_index scans id ≡ f → cond t (Some 0) (option_map (λ j. j + 1) f) ≡ Some k → cond t (source_at s.files o.paths.items path) (source_in scans sources id path) ≡ None
      by_test next true f fe e = let n : 0 ≡ k = cc in let no : ⊥ = omega arith in absurd no
      by_test next false None fe e = let no : None ≡ Some k = e in absurd (cc)
      by_test next false (Some j) fe e = let n : j + 1 ≡ k = cc in next j fe (omega arith)

-- one scan more in front of those that are indexed
pub index_more : (i : ℕ) (t : Bool) (o old : Option ℕ) → old ≡ option_map (λ k. (i + 1) + k) o → cond t (Some i) old ≡ option_map (λ k. i + k) (cond t (Some 0) (option_map (λ k. k + 1) o))
index_more i true o old e = ap Some (let n : i ≡ i + 0 = omega arith in n)
index_more i false None old e = e
index_more i false (Some k) old e = e ∙ ap Some (let n : (i + 1) + k ≡ i + (k + 1) = omega arith in n)

pub index_all : (o : Option ℕ) → option_map (λ k. 0 + k) o ≡ o
index_all None = refl
index_all (Some k) = ap Some (let n : 0 + k ≡ k = omega arith in n)

-- the source at the index of a file, among files that rise
pub source_here : (files sources : List (List ℕ)) (i : ℕ) (path : List ℕ) → AreRising files → i < length files → ((d : List ℕ) → get_or files i d ≡ path) → source_at files sources path ≡ slice_get sources i
unfolding IsStrictlySortedBy
source_here [] sources i path rise low at = let no : ⊥ = omega arith in absurd no
source_here (p ∷ ps) [] zero path rise low at = refl
source_here (p ∷ ps) (s ∷ ss) zero path rise low at = ap (λ t. cond t (Some s) (source_at ps ss path)) (ap (bytes_eq p) (sym (at p)) ∙ bytes_eq-itself p)
source_here (p ∷ ps) [] (suc i) path rise low at = refl
source_here (p ∷ ps) (s ∷ ss) (suc i) path rise low at =
    let later : slice_cmp nat_cmp p path ≡ Less = subst (λ q. slice_cmp nat_cmp p q ≡ Less) (at p) (all_at (λ q. slice_cmp nat_cmp p q ≡ Less) ps i p (omega arith) rise.0) in
    ap (λ t. cond t (Some s) (source_at ps ss path)) (bytes_eq-apart p path (text_less-apart p path later)) ∙ source_here ps ss i path rise.1 (omega arith) (λ d. at d)

pub source_nowhere : (files sources : List (List ℕ)) (path : List ℕ) → (Contains files path → ⊥) → source_at files sources path ≡ None
source_nowhere [] sources path none = refl
source_nowhere (p ∷ ps) [] path none = refl
source_nowhere (p ∷ ps) (s ∷ ss) path none =
    ap (λ t. cond t (Some s) (source_at ps ss path)) (bytes_eq-apart p path (λ e. none (subst (Contains (p ∷ ps)) e (contains_here p ps))))
    ∙ source_nowhere ps ss path (λ c. none (contains_there p path ps c))

pub source_unfound : (files sources : List (List ℕ)) (path : List ℕ) → AreRising files → (i : ℕ) → IsSearchInRange (Err i) (length files) → IsBinarySearchResult (λ x. slice_cmp nat_cmp x path) files (Err i) → source_at files sources path ≡ None
source_unfound files sources path order i within at =
    let told = text_searched (λ x. x) files (subst AreRising (sym (map_same files)) order) path (Err i) within at false refl in
    source_nowhere files sources path (λ c. let no : false ≡ true = told.1 (subst (λ l. Contains l path) (sym (map_same files)) c) in absurd (cc))

-- what is got at an index
pub got : {R X : Type 0} (now : R → X) (xs : List X) (i : ℕ) (r : Option R) → ItemBy now xs i i r → option_map now r ≡ slice_get xs i
got now xs i None h = sym (slice_get_past xs i h.3)
got now xs i (Some x) h = sym (slice_get_read xs (length xs) i (now x) refl h.3.0 h.1)
