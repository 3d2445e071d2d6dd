-- Stacks of entries.
use Rattle.std.proofs.Common.{◌≡◌, ℕ, List, [], ◌∷◌, ◌++◌, map, reverse, sym, ap, ◌∙◌, subst}
use Rattle.std.specs.List.{AllByRecursion, Contains}
use Rattle.std.specs.List.Sorted.{IsStrictlySortedBy}
use Rattle.std.specs.Ordering.{nat_cmp}
use Rattle.std.specs.Cmp.Lexicographic.{slice_cmp}
use Rattle.std.specs.declared.cmp.Ordering.{Ordering}
use Rattle.std.specs.declared.cmp.Ordering.TheVariants.{Less}
use Rattle.std.proofs.lemmas.Grind.{reverse_onto}
use Rattle.std.proofs.lemmas.List.{map-append}
use Rattle.tree_fs.specs.declared.name.Entry.{Entry}
use Rattle.tree_fs.specs.Listing.{entry_names}
use Rattle.list_laws.proofs.Alls.{all_append, all_left, all_last, all_weaken, all_map, all_unmap, all_reverse}
use Rattle.list_laws.proofs.Sorted.{sorted_more}
use Rattle.stage_scan.specs.Stack.{IsApart, IsStacked}
use Rattle.stage_scan.proofs.Orders.{apart_entries}

pub stacked_append : (ps qs : List (List (List ℕ))) → IsStacked ps → IsStacked qs → AllByRecursion (λ p. AllByRecursion (λ q. IsApart q p) qs) ps → IsStacked (ps ++ qs)
stacked_append [] qs a b h = b
stacked_append (p ∷ ps) qs a b h = (all_append (λ q. IsApart q p) ps qs a.0 h.0, stacked_append ps qs a.1 b h.1)

pub stacked_last : (ps : List (List (List ℕ))) (x : List (List ℕ)) → IsStacked (ps ++ x ∷ []) → AllByRecursion (λ p. IsApart x p) ps × IsStacked ps
stacked_last [] x s = (tt, tt)
stacked_last (p ∷ ps) x s =
    let rest = stacked_last ps x s.1 in
    ((all_last (λ q. IsApart q p) ps x s.0, rest.0), (all_left (λ q. IsApart q p) ps (x ∷ []) s.0, rest.1))

-- a folder's entries, the first one last
abbrev pub content : List (List ℕ) → List Entry → List (List (List ℕ))
content folder es = map (λ (e : Entry). folder ++ e.name ∷ []) (reverse es)

pub content_cons : (folder : List (List ℕ)) (e : Entry) (es : List Entry) → content folder (e ∷ es) ≡ content folder es ++ (folder ++ e.name ∷ []) ∷ []
content_cons folder e es = ap (map (λ (x : Entry). folder ++ x.name ∷ [])) (reverse_onto es e []) ∙ map-append (λ (x : Entry). folder ++ x.name ∷ []) (reverse es) (e ∷ [])

pub content_stacked : (folder : List (List ℕ)) (es : List Entry) → IsStrictlySortedBy (slice_cmp nat_cmp) (entry_names es) → IsStacked (content folder es)
unfolding IsStrictlySortedBy
content_stacked folder [] s = tt
content_stacked folder (e ∷ es) s =
    subst IsStacked (sym (content_cons folder e es))
    (stacked_append (content folder es) ((folder ++ e.name ∷ []) ∷ []) (content_stacked folder es s.1) (tt, tt) later)
  where
    later : AllByRecursion (λ p. AllByRecursion (λ q. IsApart q p) ((folder ++ e.name ∷ []) ∷ [])) (content folder es)
    later = all_map (λ p. AllByRecursion (λ q. IsApart q p) ((folder ++ e.name ∷ []) ∷ [])) (λ (x : Entry). folder ++ x.name ∷ []) (reverse es)
        (all_reverse (λ (x : Entry). AllByRecursion (λ q. IsApart q (folder ++ x.name ∷ [])) ((folder ++ e.name ∷ []) ∷ [])) es
        (all_weaken (λ (x : Entry). slice_cmp nat_cmp e.name x.name ≡ Less) (λ (x : Entry). AllByRecursion (λ q. IsApart q (folder ++ x.name ∷ [])) ((folder ++ e.name ∷ []) ∷ [])) es
        (λ x lt. (apart_entries folder e.name x.name lt, tt))
        (all_unmap (λ n. slice_cmp nat_cmp e.name n ≡ Less) (λ (x : Entry). x.name) es s.0)))
