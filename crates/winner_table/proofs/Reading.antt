-- What is read of scans, nodes and rows by their indexes.
use Rattle.std.proofs.Common.{◌≡◌, ◌≢◌, ℕ, zero, suc, ◌+◌, ◌-◌, ◌<◌, ◌≤◌, Bool, true, false, List, [], ◌∷◌, ◌++◌, length, get_or, take, drop, map, flat_map, sym, refl, ap, subst, ◌∙◌, inl, inr, arith, append-nil, take_all, Vec, Global, ◌⊎◌}
use Rattle.std.specs.List.{AllByRecursion, Contains, take-map}
use Rattle.std.specs.List.Sorted.{IsPartitionPoint, IsPartitionedBy}
use Rattle.std.specs.Ordering.{nat_cmp, is_lt}
use Rattle.std.specs.Cmp.Lexicographic.{slice_cmp, nat_list_cmp_total}
use Rattle.std.specs.declared.cmp.Ordering.{Ordering}
use Rattle.std.specs.declared.cmp.Ordering.TheVariants.{Less, Equal, Greater}
use Rattle.std.specs.declared.option.Option.{Option}
use Rattle.std.specs.declared.option.Option.TheVariants.{None, Some}
use Rattle.std.proofs.lemmas.List.{map-append, take_more, get_or-map, drop_more, drop-map, length-map, length-drop, nil_from_length}
use Rattle.std.proofs.lemmas.Grind.{flat_map-append}
use Rattle.std.proofs.lemmas.List.Elements.{Contains-get_or, recursion_from_All}
use Rattle.std.proofs.lemmas.Map.Keys.{Less-from_sorted}
use Rattle.std.proofs.lemmas.Option.{slice_get_read}
use Rattle.std.proofs.lemmas.Bool.{cases_lt}
use Rattle.stage_scan.specs.declared.scan.Scan.{Scan}
use Rattle.stage_scan.specs.Files.{AreInPathOrder, AreFilePaths}
use Rattle.list_laws.proofs.Orders.{less-from_test}
use Rattle.winner_table.specs.declared.provided.Provided.{Provided}
use Rattle.winner_table.specs.declared.wins.WinRow.{WinRow}
use Rattle.winner_table.specs.Winners.{files_of, id_of, files_at, id_at, paths_of}
use Rattle.winner_table.specs.Offers.{path_and_node, offers_of, offers}
use Rattle.winner_table.specs.Rows.{IsWanted, IsLastOf}
use Rattle.winner_table.specs.Folders.{IsFolderOf, IsFirstNotBelow, AreApart}
use Rattle.list_laws.proofs.Alls.{all_item, all_map}
use Rattle.list_laws.proofs.Containing.{contains_map, map_contains}

-- Scans

module _ (scans : List Scan) (node : ℕ) (scan : Scan) (low : node < length scans) (is : scan ≡ get_or scans node scan) where
  pub files_read : files_at scans node ≡ scan.files
  files_read = ap files_of (slice_get_read scans (length scans) node scan refl low is)

  pub id_read : id_at scans node ≡ scan.mod_id
  id_read = ap id_of (slice_get_read scans (length scans) node scan refl low is)

-- Runs

pub offers_more : (scans : List Scan) (order : List ℕ) (i : ℕ) (runs : List (Vec Provided Global)) (run : Vec Provided Global) (files : List (List ℕ)) → i < length order
    → files_at scans (get_or order i 0) ≡ files → map path_and_node run.items ≡ offers_of (get_or order i 0) files
    → map path_and_node (flat_map (λ (r : Vec Provided Global). r.items) runs) ≡ offers scans (take i order)
    → map path_and_node (flat_map (λ (r : Vec Provided Global). r.items) (runs ++ run ∷ [])) ≡ offers scans (take (i + 1) order)
offers_more scans order i runs run files low at is before =
    let items = λ (r : Vec Provided Global). r.items in
    let k = get_or order i 0 in
    let all = λ (node : ℕ). offers_of node (files_at scans node) in
    ap (map path_and_node) (flat_map-append items runs (run ∷ []) ∙ ap (λ l. flat_map items runs ++ l) (append-nil run.items))
    ∙ map-append path_and_node (flat_map items runs) run.items
    ∙ (λ j. before j ++ is j)
    ∙ ap (λ l. offers scans (take i order) ++ l) (ap (offers_of k) (sym at) ∙ sym (append-nil (offers_of k (files_at scans k))))
    ∙ sym (flat_map-append all (take i order) (k ∷ []))
    ∙ ap (offers scans) (sym (take_more order i 0 low))

-- Picks

pub wanted_node : (scans : List Scan) (nodes id : List ℕ) (i : ℕ) → i < length nodes → id_at scans (get_or nodes i 0) ≡ id → Contains (map (id_at scans) nodes) id
wanted_node scans nodes id i low is = subst (Contains (map (id_at scans) nodes)) is (map_contains_at (id_at scans) nodes i low)
  where
    map_contains_at : (f : ℕ → List ℕ) (xs : List ℕ) (i : ℕ) → i < length xs → Contains (map f xs) (f (get_or xs i 0))
    map_contains_at f xs i low = map_contains f xs (get_or xs i 0) (Contains-get_or xs i 0 low)

pub no_node : (scans : List Scan) (nodes id : List ℕ) → AllByRecursion (λ node. id_at scans node ≡ id → ⊥) nodes → Contains (map (id_at scans) nodes) id → ⊥
no_node scans nodes id none c =
    let m = contains_map (id_at scans) nodes id c in
    all_item (λ node. id_at scans node ≡ id → ⊥) nodes m.0 none m.1 m.2

pub not_wanted : (scans : List Scan) (nodes : List ℕ) (wanted : Option (List ℕ)) (id : List ℕ) → wanted ≡ Some id → (Contains (map (id_at scans) nodes) id → ⊥) → (other : List ℕ) → IsWanted scans nodes wanted other → ⊥
not_wanted scans nodes wanted id is none other w =
    let e : id ≡ other = some_is id other (sym is ∙ w.0) in
    none (subst (Contains (map (id_at scans) nodes)) (sym e) w.1)
  where
    some_is : (a b : List ℕ) → Some a ≡ Some b → a ≡ b
    some_is a b e = cc

pub none_wanted : (scans : List Scan) (nodes : List ℕ) (wanted : Option (List ℕ)) → wanted ≡ None → (other : List ℕ) → IsWanted scans nodes wanted other → ⊥
none_wanted scans nodes wanted is other w = let e : None ≡ Some other = sym is ∙ w.0 in cc

pub last_of : (scans : List Scan) (nodes id : List ℕ) → 0 < length nodes → id ≡ id_at scans (get_or nodes (length nodes - 1) 0) → IsLastOf scans nodes id
last_of scans nodes id some is =
    let i = length nodes - 1 in
    let more : i + 1 ≡ length nodes = omega arith in
    record {
      front = take i nodes;
      node = get_or nodes i 0;
      last = sym (take_all (length nodes) nodes (omega arith)) ∙ ap (λ n. take n nodes) (sym more) ∙ take_more nodes i 0 (omega arith);
      is = is;
    }

-- Rows

pub none_left : (rows : List WinRow) (i : ℕ) → length rows ≤ i → AllByRecursion (λ (r : WinRow). IsFolderOf (paths_of rows) r.path → ⊥) (take i rows) → AreApart (paths_of rows)
none_left rows i all none path c is =
    let P = λ (r : WinRow). IsFolderOf (paths_of rows) r.path → ⊥ in
    let m = contains_map (λ (r : WinRow). r.path) rows path c in
    all_item P rows m.0 (subst (AllByRecursion P) (take_all i rows all) none) m.1 (subst (IsFolderOf (paths_of rows)) (sym m.2) is)

front_from : {X : Type 0} (P : X → Type 0) (xs : List X) (i : ℕ) → i ≤ length xs → ((k : ℕ) (d : X) → k < i → P (get_or xs k d)) → AllByRecursion P (take i xs)
front_from P [] zero low h = tt
front_from P [] (suc i) low h = tt
front_from P (x ∷ xs) zero low h = tt
front_from P (x ∷ xs) (suc i) low h = (h 0 x (omega arith), front_from P xs i (omega arith) (λ k d less. h (suc k) d (omega arith)))

back_from : {X : Type 0} (P : X → Type 0) (xs : List X) (i : ℕ) → ((k : ℕ) (d : X) → i ≤ k → k < length xs → P (get_or xs k d)) → AllByRecursion P (drop i xs)
back_from P xs zero h = recursion_from_All P xs (λ k d less. h k d (omega arith) less)
back_from P [] (suc i) h = tt
back_from P (x ∷ xs) (suc i) h = back_from P xs i (λ k d more less. h (suc k) d (omega arith) (omega arith))

less_not : (o : Ordering) → is_lt o ≡ false → o ≡ Less → ⊥
less_not o e is = let t : true ≡ false = ap is_lt (sym is) ∙ e in cc

abbrev pub is_row_below : List ℕ → WinRow → Bool
is_row_below text row = is_lt (slice_cmp nat_cmp row.path text)

row_path : (rows : List WinRow) (k : ℕ) (d : WinRow) → k < length rows → get_or (paths_of rows) k d.path ≡ (get_or rows k d).path
row_path rows k d low = get_or-map (λ (r : WinRow). r.path) rows k d d.path low

-- one in front of a row below the text is below it too
in_front : (text : List ℕ) (rows : List WinRow) → AreInPathOrder (paths_of rows) → (i j : ℕ) (d : WinRow) → i < j → j < length rows → is_row_below text (get_or rows j d) ≡ true → is_row_below text (get_or rows i d) ≡ true
in_front text rows order i j d low high e =
    let n : length (paths_of rows) ≡ length rows = simp length-map in
    let less = Less-from_sorted (slice_cmp nat_cmp) (paths_of rows) i j d.path order low (omega (arith, n)) in
    let first = row_path rows i d (omega arith) in
    let second = row_path rows j d high in
    let step : slice_cmp nat_cmp (get_or rows i d).path (get_or rows j d).path ≡ Less = (λ k. slice_cmp nat_cmp (sym first k) (sym second k)) ∙ less in
    ap is_lt (nat_list_cmp_total.trans (get_or rows i d).path (get_or rows j d).path text step (less-from_test (slice_cmp nat_cmp (get_or rows j d).path text) e))

pub rows_parted : (text : List ℕ) (rows : List WinRow) → AreInPathOrder (paths_of rows) → IsPartitionedBy (is_row_below text) rows
rows_parted text rows order i j d low high e = elim (below_or_same i j low) [
  | inl less ↦ in_front text rows order i j d less high e
  | inr same ↦ ap (λ k. is_row_below text (get_or rows k d)) same ∙ e
]
  where
    below_or_same : (i j : ℕ) → i ≤ j → (i < j) ⊎ (i ≡ j)
    below_or_same i j low = elim (cases_lt i j) [ inl h ↦ inl h | inr h ↦ inr (omega arith) ]

pub point_is : (text : List ℕ) (rows : List WinRow) (i : ℕ) → i ≤ length rows → IsPartitionPoint (λ y. is_row_below text y ≡ true) (λ y. is_row_below text y ≡ false) rows i → IsFirstNotBelow text (paths_of rows) i
point_is text rows i low h = record {
  within = let n : length (paths_of rows) ≡ length rows = simp length-map in omega (arith, n);
  below = subst (AllByRecursion (λ path. slice_cmp nat_cmp path text ≡ Less)) (sym (take-map (λ (r : WinRow). r.path) i rows))
      (all_map (λ path. slice_cmp nat_cmp path text ≡ Less) (λ (r : WinRow). r.path) (take i rows)
      (front_from (λ (r : WinRow). slice_cmp nat_cmp r.path text ≡ Less) rows i low (λ k d less. less-from_test (slice_cmp nat_cmp (get_or rows k d).path text) (h.0 k d (omega arith) less))));
  not_below = subst (AllByRecursion (λ path. slice_cmp nat_cmp path text ≢ Less)) (sym (drop-map (λ (r : WinRow). r.path) i rows))
      (all_map (λ path. slice_cmp nat_cmp path text ≢ Less) (λ (r : WinRow). r.path) (drop i rows)
      (back_from (λ (r : WinRow). slice_cmp nat_cmp r.path text ≢ Less) rows i (λ k d more less. less_not (slice_cmp nat_cmp (get_or rows k d).path text) (h.1 k d more less))));
}

-- what stands from an index on
pub paths_from : (rows : List WinRow) (i : ℕ) (row : WinRow) → i < length rows → row ≡ get_or rows i row → drop i (paths_of rows) ≡ row.path ∷ paths_of (drop (i + 1) rows)
paths_from rows i row low is =
    drop-map (λ (r : WinRow). r.path) i rows ∙ ap paths_of (drop_more rows i row low ∙ ap (λ r. r ∷ drop (i + 1) rows) (sym is))

pub paths_past : (rows : List WinRow) (i : ℕ) → length rows ≤ i → drop i (paths_of rows) ≡ []
paths_past rows i low = nil_from_length (drop i (paths_of rows)) (let n : length (paths_of rows) ≡ length rows = simp length-map in omega (arith, n, length-drop i (paths_of rows)))
