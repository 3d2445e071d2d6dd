-- The changes of rows, row by row.
use Rattle.std.proofs.Common.{◌≡◌, ℕ, zero, suc, ◌+◌, ◌<◌, ◌≤◌, Bool, if◌then◌else◌, List, [], ◌∷◌, ◌++◌, take, drop, length, get_or, refl, sym, ap, ◌∙◌, subst, inl, inr, arith}
use Rattle.std.specs.List.{AllByRecursion, cons_option}
use Rattle.std.specs.List.Sorted.{IsStrictlySortedBy}
use Rattle.std.specs.Ordering.{nat_cmp}
use Rattle.std.specs.Cmp.Lexicographic.{slice_cmp}
use Rattle.std.specs.declared.cmp.Ordering.TheVariants.{Less}
use Rattle.std.specs.declared.option.Option.{Option}
use Rattle.std.specs.declared.option.Option.TheVariants.{None, Some}
use Rattle.std.proofs.lemmas.List.{map-append}
use Rattle.list_laws.proofs.Lists.{one_more, rest_from}
use Rattle.list_laws.proofs.Orders.{text_not_itself}
use Rattle.list_laws.proofs.Texts.{bytes_eq-itself, bytes_eq_tells}
use Rattle.manifest_json.specs.declared.manifest.Row.{Row}
use Rattle.manifest_json.specs.Paths.{AreRising}
use Rattle.manifest_json.specs.Records.{paths_of}
use Rattle.change_choices.specs.declared.class.Class.{Class}
use Rattle.change_detect.specs.declared.changes.Change.{Change}
use Rattle.change_detect.specs.Changes.{change_of, changes_by}
use Rattle.desk_model.specs.Settled.{Choice, Deed, deed_for}
use Rattle.change_settle.specs.Tasks.{first_class, index_with, tasks_by}

pub drop_next : {X : Type 0} (n : ℕ) (xs ys : List X) (x : X) → drop n xs ≡ x ∷ ys → drop (n + 1) xs ≡ ys
drop_next zero xs ys x e = ap (λ k. drop k xs) (let t : zero + 1 ≡ suc zero = omega arith in t) ∙ ap (drop 1) e
drop_next (suc n) [] ys x e = absurd (cc)
drop_next (suc n) (z ∷ zs) ys x e = ap (λ k. drop k (z ∷ zs)) (let t : suc n + 1 ≡ suc (n + 1) = omega arith in t) ∙ drop_next n zs ys x e

abbrev answer : Class → Bool → Option Class
answer k b = if b then Some k else None

module _ (class : Row → Option Class) where
  -- a later row's change isn't that of this path
  later_class : (r : Row) (rest : List Row) → AllByRecursion (λ q. slice_cmp nat_cmp r.path q ≡ Less) (paths_of rest) → first_class (changes_by class rest) r.path ≡ None
  later_class r [] all = refl
  later_class r (s ∷ rest) all = by_class (class s) (later_class r rest all.1)
    where
      by_class : (o : Option Class) → first_class (changes_by class rest) r.path ≡ None → first_class (cons_option (change_of s o) (changes_by class rest)) r.path ≡ None
      by_class None e = e
      by_class (Some k) e = elim (bytes_eq_tells s.path r.path) [
        | inl same ↦ absurd (text_not_itself r.path (ap (slice_cmp nat_cmp r.path) (sym same.1) ∙ all.0))
        | inr other ↦ ap (answer k) other.0
      ]

  -- the change at hand is that of the row, if it has one
  pub class_here : (r : Row) (rest : List Row) → AreRising (paths_of (r ∷ rest)) → first_class (changes_by class (r ∷ rest)) r.path ≡ class r
  unfolding IsStrictlySortedBy
  class_here r rest rise = by_class (class r) refl (later_class r rest rise.0)
    where
      by_class : (o : Option Class) → class r ≡ o → first_class (changes_by class rest) r.path ≡ None → first_class (cons_option (change_of r o) (changes_by class rest)) r.path ≡ o
      by_class None e later = later
      by_class (Some k) e later = ap (answer k) (bytes_eq-itself r.path)

  pub ahead_next : (changes : List Change) (next : ℕ) (r : Row) (rest : List Row) (o : Option Class) → class r ≡ o → drop next changes ≡ changes_by class (r ∷ rest) → drop (index_with o next) changes ≡ changes_by class rest
  ahead_next changes next r rest None e h = h ∙ ap (λ o. cons_option (change_of r o) (changes_by class rest)) e
  ahead_next changes next r rest (Some k) e h = drop_next next changes (changes_by class rest) (record { path = r.path; class = k }) (h ∙ ap (λ o. cons_option (change_of r o) (changes_by class rest)) e)

  -- of the rows from an index on
  module _ (rows : List Row) (i : ℕ) (r : Row) (lt : i < length rows) (is : r ≡ get_or rows i r) where
    pub class_at_row : (changes : List Change) (next : ℕ) → AreRising (paths_of (drop i rows)) → drop next changes ≡ changes_by class (drop i rows) → first_class (drop next changes) r.path ≡ class r
    class_at_row changes next rise h =
        let split = rest_from rows i r lt is in
        ap (λ l. first_class l r.path) (h ∙ ap (changes_by class) split) ∙ class_here r (drop (i + 1) rows) (let P : List Row → Type 0 = λ l. AreRising (paths_of l) in subst P split rise)

    pub ahead_at_row : (changes : List Change) (next : ℕ) (o : Option Class) → class r ≡ o → drop next changes ≡ changes_by class (drop i rows) → drop (index_with o next) changes ≡ changes_by class (drop (i + 1) rows)
    ahead_at_row changes next o e h = ahead_next changes next r (drop (i + 1) rows) o e (h ∙ ap (changes_by class) (rest_from rows i r lt is))

    pub tasks_more : (choice : Choice) (old new : List (Row × Deed)) (d : Deed) → old ≡ tasks_by choice class (take i rows) → d ≡ deed_for (choice r.path) (class r) → new ≡ old ++ (r, d) ∷ [] → new ≡ tasks_by choice class (take (i + 1) rows)
    tasks_more choice old new d e f g =
        g ∙ (λ j. e j ++ (r, f j) ∷ [])
        ∙ sym (map-append (λ (s : Row). (s, deed_for (choice s.path) (class s))) (take i rows) (r ∷ []))
        ∙ ap (tasks_by choice class) (sym (one_more rows i r lt is))

-- paths that rise do so from each on
pub rise_from : (i : ℕ) (rows : List Row) → AreRising (paths_of rows) → AreRising (paths_of (drop i rows))
unfolding IsStrictlySortedBy
rise_from zero rows rise = rise
rise_from (suc i) [] rise = tt
rise_from (suc i) (r ∷ rows) rise = rise_from i rows rise.1

pub low_next : (o : Option Class) (next i : ℕ) → next ≤ i → index_with o next ≤ i + 1
low_next None next i low = omega arith
low_next (Some k) next i low = omega arith
