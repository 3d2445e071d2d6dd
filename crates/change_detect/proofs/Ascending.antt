-- The paths of changes ascend as those of the rows do.
use Rattle.std.proofs.Common.{◌≡◌, ℕ, ◌+◌, ◌<◌, ◌≤◌, List, [], ◌∷◌, ◌++◌, length, get_or, drop, option_to_list, append_assoc, append-nil, IfSome, sym, ap, ◌∙◌, subst}
use Rattle.std.specs.List.Sorted.{IsStrictlySortedBy}
use Rattle.std.specs.Ordering.{nat_cmp}
use Rattle.std.specs.Cmp.Lexicographic.{slice_cmp}
use Rattle.std.specs.declared.cmp.Ordering.TheVariants.{Less}
use Rattle.std.specs.declared.option.Option.{Option}
use Rattle.std.specs.declared.option.Option.TheVariants.{None, Some}
use Rattle.std.proofs.lemmas.List.{map-append, drop_all}
use Rattle.list_laws.proofs.Alls.{all_append, all_left, all_right}
use Rattle.list_laws.proofs.Lists.{rest_from}
use Rattle.manifest_json.specs.declared.manifest.Row.{Row}
use Rattle.manifest_json.specs.Paths.{AreRising}
use Rattle.manifest_json.specs.Records.{paths_of}
use Rattle.change_detect.specs.declared.changes.Change.{Change}
use Rattle.change_detect.specs.Changes.{change_paths}

-- one path left out
without : (xs : List (List ℕ)) (y : List ℕ) (ys : List (List ℕ)) → AreRising (xs ++ y ∷ ys) → AreRising (xs ++ ys)
unfolding IsStrictlySortedBy
without [] y ys h = h.1
without (x ∷ xs) y ys h =
    let P = λ (z : List ℕ). slice_cmp nat_cmp x z ≡ Less in
    (all_append P xs ys (all_left P xs (y ∷ ys) h.0) (all_right P xs (y ∷ ys) h.0).1, without xs y ys h.1)

-- what is found so far, and behind it the rows that are left
pub ascending_more : (rows : List Row) (i : ℕ) (r : Row) (old new : List Change) (o : Option Change) → i < length rows → r ≡ get_or rows i r → IfSome o (λ c. c.path ≡ r.path) → new ≡ old ++ option_to_list o
    → AreRising (change_paths old ++ paths_of (drop i rows)) → AreRising (change_paths new ++ paths_of (drop (i + 1) rows))
ascending_more rows i r old new None lt is path put h =
    let same : new ≡ old = put ∙ append-nil old in
    let step : AreRising (change_paths old ++ r.path ∷ paths_of (drop (i + 1) rows)) = subst (λ l. AreRising (change_paths old ++ paths_of l)) (rest_from rows i r lt is) h in
    subst (λ l. AreRising (change_paths l ++ paths_of (drop (i + 1) rows))) (sym same) (without (change_paths old) r.path (paths_of (drop (i + 1) rows)) step)
ascending_more rows i r old new (Some c) lt is path put h =
    let rest = paths_of (drop (i + 1) rows) in
    let step : AreRising (change_paths old ++ r.path ∷ rest) = subst (λ l. AreRising (change_paths old ++ paths_of l)) (rest_from rows i r lt is) h in
    let paths : change_paths new ≡ change_paths old ++ r.path ∷ [] = ap change_paths put ∙ map-append (λ (c : Change). c.path) old (c ∷ []) ∙ ap (λ p. change_paths old ++ p ∷ []) path in
    subst AreRising (sym (ap (λ l. l ++ rest) paths ∙ append_assoc (change_paths old) (r.path ∷ []) rest)) step

-- at the end none is left
pub ascending_all : (rows : List Row) (i : ℕ) (found : List Change) → length rows ≤ i → AreRising (change_paths found ++ paths_of (drop i rows)) → AreRising (change_paths found)
ascending_all rows i found end h =
    let none : drop i rows ≡ [] = drop_all i rows end in
    subst AreRising (ap (λ l. change_paths found ++ paths_of l) none ∙ append-nil (change_paths found)) h
