-- What the type of a manifest keeps, row by row and path by path.
use Rattle.std.proofs.Common.{Bool, refl}
use Rattle.rel_paths.specs.Names.{is_reserved, IsUserPath}
use Rattle.rel_paths.proofs.Backups.{is_reserved-below}
use Rattle.rel_paths.proofs.Limits.{IsUserPath-above}
use Rattle.std.proofs.Common.{◌≡◌, ℕ, true, false, List, [], ◌∷◌, ◌++◌, sym, ap, ◌∙◌, inl, inr, subst}
use Rattle.std.specs.List.{Contains}
use Rattle.std.specs.List.Sorted.{IsStrictlySortedBy}
use Rattle.std.specs.Ordering.{nat_cmp}
use Rattle.std.specs.Cmp.Lexicographic.{slice_cmp}
use Rattle.std.specs.declared.cmp.Ordering.TheVariants.{Less}
use Rattle.list_laws.proofs.Alls.{all_item}
use Rattle.list_laws.proofs.Containing.{contains_cases, contains_none, map_contains}
use Rattle.list_laws.proofs.Orders.{text_not_both, text_before_longer, text_not_itself}
use Rattle.list_laws.proofs.Texts.{names_begin-test}
use Rattle.rel_paths.specs.Names.{names_of, extends, IsFreePath}
use Rattle.rel_paths.proofs.First.{told_names}
use Rattle.rel_paths.proofs.Extends.{extends-below, extends-tells}
use Rattle.tree_fs.specs.Spot.{IsBelow}
use Rattle.tree_fs.specs.Places.{game_spot}
use Rattle.manifest_json.specs.declared.manifest.Row.{Row}
use Rattle.manifest_json.specs.Paths.{AreRising, AreFlat}
use Rattle.manifest_json.specs.Sound.{IsRow, AreRows, AreFolders}

-- of two paths in the game folder one lies below the other just where it properly extends it
pub below-extends : (p q : List ℕ) → IsBelow (game_spot p) (game_spot q) → extends q p ≡ true
below-extends p q b = elim (told_names q p (names_begin-test (names_of q) (names_of p) (b.name ∷ b.rest) b.names)) [
  | inl same ↦ absurd (not_itself (names_of p) b.name b.rest (ap names_of (sym same) ∙ b.names))
  | inr more ↦ extends-below q p more.0 more.1
]
  where
    not_itself : (ns : List (List ℕ)) (n : List ℕ) (more : List (List ℕ)) → ns ≡ ns ++ n ∷ more → ⊥
    not_itself [] n more e = cc
    not_itself (m ∷ ns) n more e = not_itself ns n more (let t : ns ≡ ns ++ n ∷ more = cc in t)

-- paths that rise, of which none extends one in front of it, are apart
pub flat_apart : (paths : List (List ℕ)) → AreRising paths → AreFlat paths → (p q : List ℕ) → Contains paths p → Contains paths q → extends q p ≡ true → ⊥
unfolding IsStrictlySortedBy
flat_apart [] rise flat p q c d e = contains_none p c
flat_apart (x ∷ xs) rise flat p q c d e = elim (contains_cases x p xs c) [
  | inl is ↦ elim (contains_cases x q xs d) [
    | inl too ↦ not_itself (is ∙ sym too)
    | inr later ↦ let t : true ≡ false = sym e ∙ ap (extends q) is ∙ all_item (λ y. extends y x ≡ false) xs q flat.0 later in cc
  ]
  | inr there ↦ elim (contains_cases x q xs d) [
    | inl is ↦ text_not_both x p (all_item (λ y. slice_cmp nat_cmp x y ≡ Less) xs p rise.0 there) (subst (λ y. slice_cmp nat_cmp p y ≡ Less) is before)
    | inr later ↦ flat_apart xs rise.1 flat.1 p q there later e
  ]
]
  where
    before : slice_cmp nat_cmp p q ≡ Less
    before = let t = extends-tells q p e in subst (λ y. slice_cmp nat_cmp p y ≡ Less) (sym t.1) (text_before_longer p 47 t.0)

    not_itself : p ≡ q → ⊥
    not_itself same = text_not_itself p (ap (slice_cmp nat_cmp p) same ∙ before)

pub row_free : (rows : List Row) → AreRows rows → (r : Row) → Contains rows r → IsFreePath r.path
row_free rows kept r c = (all_item IsRow rows r kept.good c).path

pub rows_apart : (rows : List Row) → AreRows rows → (r s : Row) → Contains rows r → Contains rows s → ¬ IsBelow (game_spot r.path) (game_spot s.path)
rows_apart rows kept r s c d b =
    flat_apart _ kept.rise kept.flat r.path s.path (map_contains (λ (x : Row). x.path) rows r c) (map_contains (λ (x : Row). x.path) rows s d) (below-extends r.path s.path b)

pub folder_free : (paths : List (List ℕ)) → AreFolders paths → (path : List ℕ) → Contains paths path → IsFreePath path
folder_free paths kept path c = all_item IsFreePath paths path kept.good c

-- what lies above a path that isn't reserved isn't reserved either
pub above_free : (p q : List ℕ) → IsBelow (game_spot p) (game_spot q) → IsFreePath q → IsFreePath p
above_free p q b free =
    let t = extends-tells q p (below-extends p q b) in
    (IsUserPath-above p t.0 (subst IsUserPath t.1 free.0), by_test (is_reserved (names_of p)) refl)
  where
    by_test : (r : Bool) → is_reserved (names_of p) ≡ r → r ≡ false
    by_test false e = refl
    by_test true e = let u : true ≡ false = sym (is_reserved-below (names_of p) (b.name ∷ b.rest) e) ∙ ap is_reserved (sym b.names) ∙ free.1 in absurd (cc)
