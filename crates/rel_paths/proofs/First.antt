-- The first names of a text, told by its first bytes.
use Rattle.std.proofs.Common.{◌≡◌, ℕ, true, false, ◌==◌, List, [], ◌∷◌, ◌++◌, ◌⊎◌, inl, inr, get_or, length, drop, refl, sym, ap, ◌∙◌, arith}
use Rattle.std.specs.List.{starts_with}
use Rattle.std.specs.Str.{bytes_eq}
use Rattle.std.specs.Ordering.{nat_cmp}
use Rattle.std.specs.Cmp.Lexicographic.{slice_cmp}
use Rattle.std.specs.declared.cmp.Ordering.TheVariants.{Less}
use Rattle.std.proofs.lemmas.List.{append-nil}
use Rattle.std.proofs.lemmas.List.Prefix.{front_rest}
use Rattle.std.proofs.lemmas.Bool.Decides.{eqb_tells, nat_tests}
use Rattle.std.proofs.lemmas.Slice.Eq.{starts_is, bytes_eq-Decides}
pub use Rattle.list_laws.proofs.Texts.{names_begin as IsPrefix-from_test, names_begin-test as test-from_prefix}
use Rattle.list_laws.proofs.Texts.{bytes_eq-turned}
use Rattle.list_laws.proofs.Orders.{text_before_longer}
use Rattle.rel_paths.specs.Names.{names_of, text_of, begins_with_manifest, manifest_name}
use Rattle.rel_paths.proofs.NamesOf.{has_names, names_of-between, text_of-names_of, text_of-append}
use mathlib.Core.Bool.{and-true}

-- whose first names are those of another text is that text, or that text with a slash behind
first_names : (text other : List ℕ) (ns : List (List ℕ)) → names_of text ≡ names_of other ++ ns → (text ≡ other) ⊎ ((rest : List ℕ) × (text ≡ other ++ 47 ∷ rest))
first_names text other [] e = inl (sym (text_of-names_of text) ∙ ap text_of (e ∙ append-nil (names_of other)) ∙ text_of-names_of other)
first_names text other (m ∷ ms) e =
    let r = has_names other in
    inr (
      text_of (m ∷ ms),
      sym (text_of-names_of text) ∙ ap text_of (e ∙ ap (λ l. l ++ m ∷ ms) r.2) ∙ text_of-append r.0 r.1 m ms ∙ ap (λ t. t ++ 47 ∷ text_of (m ∷ ms)) (ap text_of (sym r.2) ∙ text_of-names_of other),
    )

-- what the test tells of the texts
pub told_names : (text other : List ℕ) → starts_with bytes_eq (names_of text) (names_of other) ≡ true → (text ≡ other) ⊎ ((rest : List ℕ) × (text ≡ other ++ 47 ∷ rest))
told_names text other h = first_names text other (drop (length (names_of other)) (names_of text)) ((starts_is bytes_eq-Decides (names_of text) (names_of other) _ refl).0 h)

-- the test, where the text doesn't begin so
pub starts_with-lacks : (text other : List ℕ) → ((rest : List ℕ) → text ≡ other ++ rest → ⊥) → false ≡ starts_with bytes_eq (names_of text) (names_of other)
starts_with-lacks text other lacks =
    elim (starts_with bytes_eq (names_of text) (names_of other)) as (λ b. starts_with bytes_eq (names_of text) (names_of other) ≡ b → false ≡ b) [
      | true ↦ λ e. elim (told_names text other e) [
        | inl same ↦ absurd (lacks [] (same ∙ sym (append-nil other)))
        | inr more ↦ absurd (lacks (47 ∷ more.0) more.1)
      ]
      | false ↦ λ e. refl
    ] refl

pub starts_with-itself : (text other : List ℕ) → text ≡ other → starts_with bytes_eq (names_of text) (names_of other) ≡ true
starts_with-itself text other e = (starts_is bytes_eq-Decides (names_of text) (names_of other) _ refl).1 [] (ap names_of e ∙ sym (append-nil (names_of other)))

pub starts_with-below : (text other rest : List ℕ) → text ≡ other ++ 47 ∷ rest → starts_with bytes_eq (names_of text) (names_of other) ≡ true
starts_with-below text other rest e = (starts_is bytes_eq-Decides (names_of text) (names_of other) _ refl).1 (names_of rest) (ap names_of e ∙ names_of-between other rest)

-- the test, where something stands behind
pub starts_with-behind : (text other : List ℕ) (b : ℕ) (bs : List ℕ) → text ≡ other ++ b ∷ bs → starts_with bytes_eq (names_of text) (names_of other) ≡ (b == 47)
starts_with-behind text other b bs e =
    let rest : drop (length other) text ≡ b ∷ bs = front_rest text other (b ∷ bs) e in
    elim (eqb_tells b 47) [
      | inl met ↦ starts_with-below text other bs (e ∙ ap (λ c. other ++ c ∷ bs) met.1) ∙ sym met.0
      | inr other_byte ↦ elim (starts_with bytes_eq (names_of text) (names_of other)) as (λ r. starts_with bytes_eq (names_of text) (names_of other) ≡ r → r ≡ (b == 47)) [
        | true ↦ λ t. elim (told_names text other t) [
          | inl same ↦ let none : drop (length other) text ≡ [] = front_rest text other [] (same ∙ sym (append-nil other)) in let never : ⊥ = cc in absurd never
          | inr more ↦ let other_rest : drop (length other) text ≡ 47 ∷ more.0 = front_rest text other (47 ∷ more.0) more.1 in let same : b ≡ 47 = cc in absurd (other_byte.1 same)
        ]
        | false ↦ λ t. sym other_byte.0
      ] refl
    ]

-- the test, where the text is what it is to begin with
pub starts_with-behind_none : (text other rest : List ℕ) → text ≡ other ++ rest → (length rest == 0) ≡ true → starts_with bytes_eq (names_of text) (names_of other) ≡ true
starts_with-behind_none text other [] e h = starts_with-itself text other (e ∙ append-nil other)
starts_with-behind_none text other (b ∷ bs) e h = let never : ⊥ = grind (arith, nat_tests) in absurd never

pub starts_with-behind_some : (text other rest : List ℕ) → text ≡ other ++ rest → (length rest == 0) ≡ false → starts_with bytes_eq (names_of text) (names_of other) ≡ (get_or rest 0 0 == 47)
starts_with-behind_some text other [] e h = let never : ⊥ = grind (arith, nat_tests) in absurd never
starts_with-behind_some text other (b ∷ bs) e h = starts_with-behind text other b bs e

-- the first name is the manifest's just where the manifest's names are the first ones
pub starts_with-manifest : (text : List ℕ) → starts_with bytes_eq (names_of text) (names_of manifest_name) ≡ begins_with_manifest (names_of text)
starts_with-manifest text =
    let r = has_names text in
    rw r.2 (and-true (bytes_eq manifest_name r.0) ∙ bytes_eq-turned manifest_name r.0)

-- a text comes before those that stand below it
pub cmp-below : (above below : List ℕ) → slice_cmp nat_cmp above (above ++ 47 ∷ below) ≡ Less
cmp-below above below = text_before_longer above 47 below
