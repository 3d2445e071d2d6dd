-- The mods of scans differ, one mod after the other.
use Rattle.std.proofs.Common.{◌≡◌, ℕ, Bool, true, false, List, [], ◌∷◌, ◌++◌, map, nat_eq, refl, sym, ◌∙◌, subst, is_ok, if◌then◌else◌, Result}
use Rattle.std.specs.Prelude.{not, IfOk}
use Rattle.std.specs.List.{AllByRecursion, IsDistinct, list_any}
use Rattle.std.specs.Str.{bytes_eq}
use Rattle.std.specs.Cmp.Lexicographic.{pointwise}
use Rattle.std.specs.declared.result.Result.TheVariants.{Ok, Err}
use Rattle.std.proofs.lemmas.List.{map-append}
use Rattle.list_laws.proofs.Alls.{all-from_none, all_map}
use Rattle.list_laws.proofs.Distinct.{distinct_more}
use Rattle.stage_scan.specs.declared.scan.Scan.{Scan}
use Rattle.deploy_plan.specs.Scanned.{HasOwnIds}

pub nothing_twice : IsDistinct (pointwise nat_eq) []
unfolding IsDistinct
nothing_twice = tt

false_by_not : (b : Bool) → not b ≡ true → b ≡ false
false_by_not true is = absurd (cc)
false_by_not false is = refl

pub ids_differ : (scans : List Scan) (id : List ℕ) (b : Bool) → b ≡ list_any (λ (scan : Scan). bytes_eq scan.mod_id id) scans → not b ≡ true → AllByRecursion (λ y. pointwise nat_eq y id ≡ false) (map (λ (scan : Scan). scan.mod_id) scans)
ids_differ scans id b is new = all_map (λ y. pointwise nat_eq y id ≡ false) (λ (scan : Scan). scan.mod_id) scans (all-from_none (λ (scan : Scan). bytes_eq scan.mod_id id) scans (sym is ∙ false_by_not b new))

pub ids_more : (scans : List Scan) (scan : Scan) → HasOwnIds scans → AllByRecursion (λ y. pointwise nat_eq y scan.mod_id ≡ false) (map (λ (s : Scan). s.mod_id) scans) → HasOwnIds (scans ++ scan ∷ [])
ids_more scans scan own new = subst (IsDistinct (pointwise nat_eq)) (sym (map-append (λ (s : Scan). s.mod_id) scans (scan ∷ []))) (distinct_more (pointwise nat_eq) (map (λ (s : Scan). s.mod_id) scans) scan.mod_id own new)

-- what was pushed without an error is there
pub pushed : {X T E : Type 0} (r : Result T E) (v : T) (new old : List X) (x : X) → new ≡ (if is_ok r then old ++ x ∷ [] else old) → r ≡ Ok v → new ≡ old ++ x ∷ []
pushed (Ok w) v new old x is ok = is
pushed (Err e) v new old x is ok = absurd (cc)

-- the value of an answer that is Ok
pub of_ok : {T E : Type 0} (P : T → Type 0) (r : Result T E) (v : T) → r ≡ Ok v → IfOk r P → P v
of_ok P r v is h = subst (λ a. IfOk a P) is h
