-- When one path properly extends another, by their texts.
use Rattle.std.proofs.Common.{◌≡◌, ◌<◌, ◌+◌, inl, inr, get_or, ℕ, ◌==◌, true, false, not, List, [], ◌∷◌, ◌++◌, length, refl, sym, ap, ◌∙◌, length-append, arith}
use Rattle.std.specs.List.{starts_with}
use Rattle.std.specs.Str.{bytes_eq}
use Rattle.std.proofs.lemmas.List.{append-nil}
use Rattle.std.proofs.lemmas.List.Prefix.{front_rest}
use Rattle.std.proofs.lemmas.Slice.Eq.{bytes_eq-Decides}
use Rattle.std.proofs.lemmas.Bool.Decides.{eqb_tells}
use Rattle.rel_paths.specs.Names.{names_of, extends}
use Rattle.rel_paths.proofs.First.{told_names, starts_with-below}
use Rattle.std.proofs.lemmas.Bool.{and_parts, and_from, not_from_false, not-true}
use Rattle.list_laws.proofs.Texts.{longer_differs}

-- the text of the other stands in front of a slash
pub extends-tells : (path other : List ℕ) → extends path other ≡ true → (rest : List ℕ) × (path ≡ other ++ 47 ∷ rest)
unfolding extends
extends-tells path other h =
    let parts = and_parts (starts_with bytes_eq (names_of path) (names_of other)) (not (bytes_eq path other)) h in
    elim (told_names path other parts.0) [
      | inl same ↦ let there : bytes_eq path other ≡ true = (bytes_eq-Decides path other).1 same in let differs = not-true (bytes_eq path other) parts.1 in let never : ⊥ = cc in absurd never
      | inr more ↦ more
    ]

pub extends-below : (path other rest : List ℕ) → path ≡ other ++ 47 ∷ rest → extends path other ≡ true
unfolding extends
extends-below path other rest e =
    let longer : length other < length path = omega (arith, ap length e, length-append other (47 ∷ rest)) in
    and_from (starts_with bytes_eq (names_of path) (names_of other)) (not (bytes_eq path other)) (starts_with-below path other rest e) (not_from_false (bytes_eq path other) (longer_differs path other longer))

pub extends-not : (path other : List ℕ) → ((rest : List ℕ) → path ≡ other ++ 47 ∷ rest → ⊥) → extends path other ≡ false
extends-not path other lacks =
    elim (extends path other) as (λ b. extends path other ≡ b → b ≡ false) [
      | true ↦ λ e. let t = extends-tells path other e in absurd (lacks t.0 t.1)
      | false ↦ λ e. refl
    ] refl

-- what stands behind the other's text tells
pub extends-behind : (path other : List ℕ) (b : ℕ) (bs : List ℕ) → path ≡ other ++ b ∷ bs → (b ≡ 47 → ⊥) → extends path other ≡ false
extends-behind path other b bs e differs =
    extends-not path other (λ rest same. differs (first_is (sym (front_rest path other (b ∷ bs) e) ∙ front_rest path other (47 ∷ rest) same)))
  where
    first_is : {x y : ℕ} {xs ys : List ℕ} → x ∷ xs ≡ y ∷ ys → x ≡ y
    first_is h = cc

-- the other's text isn't the beginning
pub extends-lacks : (path other : List ℕ) → ((rest : List ℕ) → path ≡ other ++ rest → ⊥) → false ≡ extends path other
extends-lacks path other lacks = sym (extends-not path other (λ rest e. lacks (47 ∷ rest) e))

-- no path extends itself
pub extends-itself : (path other : List ℕ) → path ≡ other → extends path other ≡ false
extends-itself path other e =
    extends-not path other (λ rest g.
    let size : length path ≡ length other = ap length e in
    let more : length path ≡ length other + length (47 ∷ rest) = ap length g ∙ length-append other (47 ∷ rest) in
    let never : ⊥ = omega arith in
    never)

-- the first byte of what stands behind it tells
pub extends-rest : (path other rest : List ℕ) → path ≡ other ++ rest → extends path other ≡ (get_or rest 0 0 == 47)
extends-rest path other [] e = extends-itself path other (e ∙ append-nil other)
extends-rest path other (b ∷ bs) e =
    elim (eqb_tells b 47) [
      | inl met ↦ extends-below path other bs (e ∙ ap (λ c. other ++ c ∷ bs) met.1) ∙ sym met.0
      | inr differs ↦ extends-behind path other b bs e differs.1 ∙ sym differs.0
    ]
