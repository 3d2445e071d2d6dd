-- The rows that the type of a manifest keeps lie apart.
use Rattle.std.proofs.Common.{◌≡◌, ◌⊎◌, ℕ, true, false, List, [], ◌∷◌, ◌++◌, sym, ◌∙◌, subst, inl, inr}
use Rattle.std.specs.List.Sorted.{IsStrictlySortedBy}
use Rattle.std.specs.Ordering.{nat_cmp}
use Rattle.std.specs.Cmp.Lexicographic.{slice_cmp}
use Rattle.std.specs.declared.cmp.Ordering.TheVariants.{Less}
use Rattle.list_laws.proofs.Alls.{all_both, all_unmap}
use Rattle.list_laws.proofs.Orders.{text_not_both, text_less-apart, text_before_longer}
use Rattle.list_laws.proofs.Texts.{names_begin-test}
use Rattle.rel_paths.specs.Names.{names_of, extends}
use Rattle.rel_paths.proofs.First.{told_names}
use Rattle.rel_paths.proofs.Extends.{extends-below}
use Rattle.manifest_json.specs.declared.manifest.Row.{Row}
use Rattle.manifest_json.specs.Records.{paths_of}
use Rattle.manifest_json.specs.Paths.{AreRising, AreFlat}
use Rattle.manifest_json.specs.Apart.{Reaches, AreApart, HasApartPaths}
use Rattle.manifest_json.specs.Sound.{AreRows}

reaches-tells : (p q : List ℕ) → Reaches p q → (p ≡ q) ⊎ ((rest : List ℕ) × (p ≡ q ++ 47 ∷ rest))
reaches-tells p q h = told_names p q (names_begin-test (names_of p) (names_of q) h.rest h.names)

-- a path and a later one that doesn't extend it
apart_in_order : (p q : List ℕ) → slice_cmp nat_cmp p q ≡ Less → extends q p ≡ false → AreApart p q
apart_in_order p q less flat = (
  λ h. elim (reaches-tells p q h) [
    | inl same ↦ text_less-apart p q less same
    | inr more ↦ text_not_both p q less (subst (λ t. slice_cmp nat_cmp q t ≡ Less) (sym more.1) (text_before_longer q 47 more.0))
  ],
  λ h. elim (reaches-tells q p h) [
    | inl same ↦ text_less-apart p q less (sym same)
    | inr more ↦ let t : true ≡ false = sym (extends-below q p more.0 more.1) ∙ flat in cc
  ],
)

paths_apart : (rows : List Row) → AreRising (paths_of rows) → AreFlat (paths_of rows) → HasApartPaths rows
unfolding IsStrictlySortedBy
paths_apart [] rise flat = tt
paths_apart (r ∷ rs) rise flat = (
  all_both (λ (s : Row). slice_cmp nat_cmp r.path s.path ≡ Less) (λ (s : Row). extends s.path r.path ≡ false) (λ (s : Row). AreApart r.path s.path) rs
      (λ s. apart_in_order r.path s.path)
      (all_unmap (λ q. slice_cmp nat_cmp r.path q ≡ Less) (λ (s : Row). s.path) rs rise.0)
      (all_unmap (λ q. extends q r.path ≡ false) (λ (s : Row). s.path) rs flat.0),
  paths_apart rs rise.1 flat.1,
)

pub rows-apart : (rows : List Row) → AreRows rows → HasApartPaths rows
rows-apart rows kept = paths_apart rows kept.rise kept.flat
