-- Runs of what nodes provide, and how the merged pairs are gathered.
use Rattle.std.proofs.Common.{◌≡◌, ◌≢◌, ℕ, zero, suc, ◌+◌, ◌<◌, ◌≤◌, ◌^◌, false, true, eqb, List, [], ◌∷◌, ◌++◌, length, get_or, take, drop, map, flat_map, All, sym, refl, ap, subst, ◌∙◌, inl, inr, arith, append_assoc, true≢false, Fits, w32}
use Rattle.std.proofs.lemmas.List.{map-append, drop_more}
use Rattle.std.specs.List.{AllByRecursion, Contains, IsDistinct, list_any}
use Rattle.std.specs.List.Sorted.{IsStrictlySortedBy}
use Rattle.std.specs.Str.{bytes_eq}
use Rattle.std.specs.Ordering.{nat_cmp, is_lt, ordering_reverse}
use Rattle.std.specs.Cmp.Lexicographic.{slice_cmp, nat_list_cmp_total}
use Rattle.std.specs.declared.cmp.Ordering.TheVariants.{Less}
use Rattle.std.proofs.lemmas.Bool.Decides.{eqb_tells}
use Rattle.std.proofs.lemmas.Grind.{flat_map-append, get_or_default_zero}
use Rattle.list_laws.proofs.Alls.{all_item, all_map, all_unmap, all_one_more, all_from_contains}
use Rattle.list_laws.proofs.Containing.{contains_here, contains_there}
use Rattle.list_laws.proofs.Texts.{number_in-from_any, bytes_eq-apart}
use Rattle.list_laws.proofs.Lists.{around}
use Rattle.stage_scan.specs.Files.{AreInPathOrder}
use Rattle.winner_table.specs.Merged.{is_below, AreAscending, insert, sorted_by}
use Rattle.winner_table.specs.Offers.{path_and_node, path_bytes, offers_of, grouped, HasPath, BeginsOther}
use Rattle.winner_table.specs.Providers.{path_and_nodes}
use Rattle.winner_table.specs.declared.provided.Provided.{Provided}
use Rattle.winner_table.specs.declared.providers.Providers.{Providers}
use Rattle.winner_table.proofs.Sorting.{either, insert_later, insert_here}
use Rattle.winner_table.proofs.StableSorts.{Rises, rises_ascends}
use Rattle.winner_table.proofs.Grouping.{Pair, Group, path, node, equal, Begins, group_step}

-- A run ascends

rises_from : (xs : List Provided) → AreInPathOrder (map path_bytes xs) → Rises (is_below path_bytes) xs
unfolding IsStrictlySortedBy
rises_from [] h = tt
rises_from (x ∷ []) h = (tt, tt)
rises_from (x ∷ y ∷ ys) h = (
  ap is_lt (nat_list_cmp_total.antisymm (path_bytes y) (path_bytes x)) ∙ ap (λ o. is_lt (ordering_reverse o)) h.0.0,
  rises_from (y ∷ ys) h.1,
)

run_paths : (xs : List Provided) → map path (map path_and_node xs) ≡ map path_bytes xs
run_paths [] = refl
run_paths (x ∷ xs) = ap (λ l. path_bytes x ∷ l) (run_paths xs)

offer_paths : (k : ℕ) (fs : List (List ℕ)) → map path (offers_of k fs) ≡ fs
offer_paths k [] = refl
offer_paths k (f ∷ fs) = ap (λ l. f ∷ l) (offer_paths k fs)

pub run_ascends : (xs : List Provided) (k : ℕ) (fs : List (List ℕ)) → map path_and_node xs ≡ offers_of k fs → AreInPathOrder fs → AreAscending path_bytes xs
run_ascends xs k fs is order =
    let same : fs ≡ map path_bytes xs = sym (offer_paths k fs) ∙ ap (map path) (sym is) ∙ run_paths xs in
    rises_ascends (is_below path_bytes) xs (rises_from xs (subst AreInPathOrder same order))

-- Sorting items sorts their pairs

put_pair : (x : Provided) (ys : List Provided) → map path_and_node (insert (is_below path_bytes) x ys) ≡ insert (is_below path) (path_and_node x) (map path_and_node ys)
put_pair x [] = refl
put_pair x (y ∷ ys) = elim (either (is_below path_bytes y x)) [
  | inl e ↦ ap (map path_and_node) (insert_later (is_below path_bytes) x y ys e) ∙ ap (λ l. path_and_node y ∷ l) (put_pair x ys)
      ∙ sym (insert_later (is_below path) (path_and_node x) (path_and_node y) (map path_and_node ys) e)
  | inr e ↦ ap (map path_and_node) (insert_here (is_below path_bytes) x y ys e)
      ∙ sym (insert_here (is_below path) (path_and_node x) (path_and_node y) (map path_and_node ys) e)
]

pub sorted_pairs : (xs : List Provided) → map path_and_node (sorted_by path_bytes xs) ≡ sorted_by path (map path_and_node xs)
sorted_pairs [] = refl
sorted_pairs (x ∷ xs) = put_pair x (sorted_by path_bytes xs) ∙ ap (insert (is_below path) (path_and_node x)) (sorted_pairs xs)

-- Gathering

pub begins_at : (xs : List Provided) (x : Provided) → 0 < length xs → x ≡ get_or xs 0 x → Begins (path_bytes x) (map path_and_node xs)
begins_at [] x some is = absurd (omega arith)
begins_at (y ∷ ys) x some is = ap path_bytes (sym is)

module _ (p : List ℕ) where
  not_zero : (xs : List Pair) → Begins p xs → BeginsOther p xs → ⊥
  not_zero [] b o = b
  not_zero (x ∷ xs) b o = let t : true ≡ false = sym (equal p x.0 (sym b)) ∙ o in cc

  pub some_with : (xs : List Provided) (n : ℕ) → Begins p (map path_and_node xs) → BeginsOther p (map path_and_node (drop n xs)) → 0 < n
  some_with xs zero b o = absurd (not_zero (map path_and_node xs) b o)
  some_with xs (suc n) b o = omega arith

  pub parts_more : (gs : List Providers) (g : Providers) (rest same bs : List Provided) (whole : List Group)
      → path_and_nodes g ≡ (p, map node (map path_and_node same)) → rest ≡ same ++ bs → Begins p (map path_and_node rest)
      → AllByRecursion (HasPath p) (map path_and_node same) → BeginsOther p (map path_and_node bs)
      → map path_and_nodes gs ++ grouped (map path_and_node rest) ≡ whole
      → map path_and_nodes (gs ++ g ∷ []) ++ grouped (map path_and_node bs) ≡ whole
  parts_more gs g rest same bs whole is split begins all other was =
      let step = group_step p (map path_and_node rest) (map path_and_node same) (map path_and_node bs) (ap (map path_and_node) split ∙ map-append path_and_node same bs) begins all other in
      ap (λ l. l ++ grouped (map path_and_node bs)) (map-append path_and_nodes gs (g ∷ []))
      ∙ append_assoc (map path_and_nodes gs) (path_and_nodes g ∷ []) (grouped (map path_and_node bs))
      ∙ ap (λ h. map path_and_nodes gs ++ h ∷ grouped (map path_and_node bs)) is
      ∙ ap (λ l. map path_and_nodes gs ++ l) (sym step)
      ∙ was

-- The order

pub distinct_from : (xs : List ℕ) → ((front : List ℕ) (x : ℕ) (back : List ℕ) → xs ≡ front ++ x ∷ back → Contains front x → ⊥) → IsDistinct eqb xs
unfolding IsDistinct
distinct_from [] once = tt
distinct_from (x ∷ xs) once = (
  all_from_contains (λ y. eqb x y ≡ false) xs (λ y c. elim (eqb_tells x y) [
    | inl e ↦ (let split = around xs c.0 y c.1 (sym c.2) in
        absurd (once (x ∷ take c.0 xs) y (drop (suc c.0) xs) (ap (λ l. x ∷ l) split) (subst (Contains (x ∷ take c.0 xs)) e.1 (contains_here x (take c.0 xs)))))
    | inr e ↦ e.0
  ]),
  distinct_from xs (λ front y back e c. once (x ∷ front) y back (ap (λ l. x ∷ l) e) (contains_there x y front c)),
)

-- How far equal paths go

pub with_more : (p : List ℕ) (items : List Provided) (i : ℕ) (x : Provided) → i < length items → x ≡ get_or items i x → path_bytes x ≡ p
    → AllByRecursion (HasPath p) (map path_and_node (take i items)) → AllByRecursion (HasPath p) (map path_and_node (take (i + 1) items))
with_more p items i x low is has before =
    all_map (HasPath p) path_and_node (take (i + 1) items)
    (all_one_more (λ y. HasPath p (path_and_node y)) items i x low is (all_unmap (HasPath p) path_and_node (take i items) before) has)

pub other_at : (p : List ℕ) (items : List Provided) (i : ℕ) (x : Provided) → i < length items → x ≡ get_or items i x → bytes_eq (path_bytes x) p ≡ false
    → BeginsOther p (map path_and_node (drop i items))
other_at p items i x low is differs =
    subst (λ l. BeginsOther p (map path_and_node l)) (sym (drop_more items i x low ∙ ap (λ y. y ∷ drop (i + 1) items) (sym is)))
    (bytes_eq-apart p (path_bytes x) (λ e. true≢false (sym (equal (path_bytes x) p (sym e)) ∙ differs)))

pub begins_get : (xs : List Provided) (d : Provided) → 0 < length xs → Begins (path_bytes (get_or xs 0 d)) (map path_and_node xs)
begins_get [] d some = absurd (omega arith)
begins_get (y ∷ ys) d some = refl

-- numbers that fit a `u32` are below 2^32
pub fits_below : (xs : List ℕ) → ((i : ℕ) → Fits w32 (get_or xs i 0)) → (q : ℕ) → list_any (eqb q) xs ≡ true → q < 2 ^ 32
fits_below xs fits q any =
    let c = number_in-from_any xs q any in
    let here : get_or xs c.0 0 ≡ q = sym (get_or_default_zero xs c.0 q c.1) ∙ c.2 in
    let f : Fits w32 (get_or xs c.0 0) = fits c.0 in
    let low : get_or xs c.0 0 < 2 ^ 32 = f.fits in
    omega (arith, low, here)
