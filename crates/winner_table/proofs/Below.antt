-- What lies below a path, among paths that ascend.
use Rattle.std.proofs.Common.{◌≡◌, ◌≢◌, ℕ, ◌==◌, true, List, [], ◌∷◌, ◌++◌, take, drop, sym, refl, ap, subst, ◌∙◌, inl, inr, arith, append_assoc}
use Rattle.std.specs.List.{AllByRecursion, Contains, starts_with}
use Rattle.std.specs.List.Sorted.{IsStrictlySortedBy}
use Rattle.std.specs.Str.{bytes_eq}
use Rattle.std.specs.Ordering.{nat_cmp, is_eq, ordering_then, ordering_reverse}
use Rattle.std.specs.Cmp.Lexicographic.{slice_cmp, nat_list_cmp_total}
use Rattle.std.specs.declared.cmp.Ordering.{Ordering}
use Rattle.std.specs.declared.cmp.Ordering.TheVariants.{Less, Equal, Greater}
use Rattle.std.proofs.lemmas.Cmp.{tied_itself, nat_cmp_total}
use Rattle.std.proofs.lemmas.List.Elements.{Contains-append_cases, Contains-append_right}
use Rattle.std.proofs.lemmas.List.{take-append-drop}
use Rattle.rel_paths.specs.Names.{names_of, extends}
use Rattle.rel_paths.proofs.First.{told_names, starts_with-below, cmp-below}
use Rattle.list_laws.proofs.Alls.{all_item}
use Rattle.list_laws.proofs.Containing.{contains_here, contains_cases, contains_none}
use Rattle.stage_scan.specs.Files.{AreInPathOrder}
use Rattle.list_laws.proofs.Orders.{nat_tied}
use Rattle.list_laws.proofs.Sorted.{sorted_right}
use Rattle.winner_table.specs.Folders.{IsFolderOf, IsFirstNotBelow}
use Rattle.rel_paths.proofs.Extends.{extends-tells, extends-below}

-- the least text of what lies below a path
abbrev pub content : List ℕ → List ℕ
content path = path ++ 47 ∷ []

not_below_front : (c rest : List ℕ) → slice_cmp nat_cmp (c ++ rest) c ≢ Less
not_below_front [] [] h = cc
not_below_front [] (x ∷ xs) h = cc
not_below_front (a ∷ c) rest h = not_below_front c rest (ap (λ o. ordering_then o (slice_cmp nat_cmp (c ++ rest) c)) (sym (tied_itself nat_cmp_total a)) ∙ h)

-- a text that isn't below c, nor above one that begins with c, begins with c
between_by : (c : List ℕ) (t : List ℕ) (a b : ℕ) (rest : List ℕ) (o : Ordering) → nat_cmp b a ≡ o
    → (slice_cmp nat_cmp (b ∷ t) (a ∷ c) ≢ Less) → (slice_cmp nat_cmp (b ∷ t) ((a ∷ c) ++ rest) ≢ Greater)
    → ((slice_cmp nat_cmp t c ≢ Less) → (slice_cmp nat_cmp t (c ++ rest) ≢ Greater) → (r : List ℕ) × (t ≡ c ++ r))
    → (r : List ℕ) × (b ∷ t ≡ (a ∷ c) ++ r)
between_by c t a b rest Less is low high more = absurd (low (ap (λ o. ordering_then o (slice_cmp nat_cmp t c)) is))
between_by c t a b rest Equal is low high more =
    let r = more (λ e. low (ap (λ o. ordering_then o (slice_cmp nat_cmp t c)) is ∙ e)) (λ e. high (ap (λ o. ordering_then o (slice_cmp nat_cmp t (c ++ rest))) is ∙ e)) in
    (r.0, (λ i. nat_tied b a is i ∷ r.1 i))
between_by c t a b rest Greater is low high more = absurd (high (ap (λ o. ordering_then o (slice_cmp nat_cmp t (c ++ rest))) is))

between : (c text rest : List ℕ) → (slice_cmp nat_cmp text c ≢ Less) → (slice_cmp nat_cmp text (c ++ rest) ≢ Greater) → (r : List ℕ) × (text ≡ c ++ r)
between [] text rest low high = (text, refl)
between (a ∷ c) [] rest low high = absurd (low refl)
between (a ∷ c) (b ∷ t) rest low high = between_by c t a b rest (nat_cmp b a) refl low high (between c t rest)

below_text : (path below : List ℕ) → extends below path ≡ true → (rest : List ℕ) × (below ≡ content path ++ rest)
below_text path below h =
    let r = extends-tells below path h in
    (r.0, r.1 ∙ sym (append_assoc path (47 ∷ []) r.0))

not_above_later : (row : List ℕ) (rest : List (List ℕ)) (below : List ℕ) → AreInPathOrder (row ∷ rest) → Contains (row ∷ rest) below → slice_cmp nat_cmp row below ≢ Greater
unfolding IsStrictlySortedBy
not_above_later row rest below order c h = elim (contains_cases row below rest c) [
  | inl e ↦ (let t : Equal ≡ Greater = sym (tied_itself nat_list_cmp_total row) ∙ ap (slice_cmp nat_cmp row) (sym e) ∙ h in cc)
  | inr d ↦ (let t : Less ≡ Greater = sym (all_item (λ q. slice_cmp nat_cmp row q ≡ Less) rest below order.0 d) ∙ h in cc)
]

module _ (paths : List (List ℕ)) (path : List ℕ) (index : ℕ) (order : AreInPathOrder paths) (f : IsFirstNotBelow (content path) paths index) where
  in_back : (below : List ℕ) → Contains paths below → extends below path ≡ true → Contains (drop index paths) below
  in_back below c h = elim (Contains-append_cases (take index paths) (drop index paths) below (subst (λ l. Contains l below) (sym (take-append-drop index paths)) c)) [
    | inl front ↦ (let r = below_text path below h in
        absurd (not_below_front (content path) r.0 (subst (λ t. slice_cmp nat_cmp t (content path) ≡ Less) r.1 (all_item (λ p. slice_cmp nat_cmp p (content path) ≡ Less) (take index paths) below f.below front))))
    | inr back ↦ back
  ]

  pub none_below : drop index paths ≡ [] → IsFolderOf paths path → ⊥
  none_below none is = contains_none is.below (subst (λ l. Contains l is.below) none (in_back is.below is.among is.extending))

  module _ (row : List ℕ) (rest : List (List ℕ)) (at : drop index paths ≡ row ∷ rest) where
    not_below : slice_cmp nat_cmp row (content path) ≢ Less
    not_below = (subst (AllByRecursion (λ p. slice_cmp nat_cmp p (content path) ≢ Less)) at f.not_below).0

    pub one_below : starts_with bytes_eq (names_of row) (names_of path) ≡ true → IsFolderOf paths path
    one_below h = elim (told_names row path h) [
      | inl same ↦ absurd (not_below (subst (λ t. slice_cmp nat_cmp t (content path) ≡ Less) (sym same) (cmp-below path [])))
      | inr more ↦ record {
        below = row;
        among = subst (λ l. Contains l row) (take-append-drop index paths) (Contains-append_right (take index paths) (drop index paths) row (subst (λ l. Contains l row) (sym at) (contains_here row rest)));
        extending = extends-below row path more.0 more.1;
      }
    ]

    pub first_below : IsFolderOf paths path → starts_with bytes_eq (names_of row) (names_of path) ≡ true
    first_below is =
        let back = subst (λ l. Contains l is.below) at (in_back is.below is.among is.extending) in
        let rows = subst AreInPathOrder at (sorted_right (slice_cmp nat_cmp) (take index paths) (drop index paths) (subst AreInPathOrder (sym (take-append-drop index paths)) order)) in
        let text = below_text path is.below is.extending in
        let high : slice_cmp nat_cmp row (content path ++ text.0) ≢ Greater = λ e. not_above_later row rest is.below rows back (ap (slice_cmp nat_cmp row) text.1 ∙ e) in
        let begins = between (content path) row text.0 not_below high in
        starts_with-below row path begins.0 (begins.1 ∙ append_assoc path (47 ∷ []) begins.0)
