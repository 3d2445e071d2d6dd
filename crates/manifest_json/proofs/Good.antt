-- Rows by their tests, and by what the tests mean.
use Rattle.std.proofs.Common.{◌≡◌, ℕ, Bool, true, not, ◌&&◌, List, Option, None, Some, Result, Ok, Err, refl, ap, sym, ◌∙◌}
use Rattle.std.specs.Prelude.{is_none}
use Rattle.std.specs.List.{AllByRecursion}
use Rattle.rel_paths.specs.Names.{names_of, path_fault, user_limits, id_fault, is_reserved, IsFreePath, IsModId}
use Rattle.std.proofs.lemmas.Bool.{and_parts, not-true}
use Rattle.manifest_json.specs.declared.manifest.Row.{Row}
use Rattle.manifest_json.specs.Paths.{is_free_path, is_mod_id}
use Rattle.manifest_json.specs.Rows.{has_good_paths}
use Rattle.manifest_json.specs.Sound.{IsRow}

none_is : {A : Type 0} (o : Option A) → is_none o ≡ true → o ≡ None
none_is None h = refl
none_is (Some x) h = let never : ⊥ = cc in absurd never

pub free_means : (p : List ℕ) → is_free_path p ≡ true → IsFreePath p
free_means p h =
    let parts = and_parts (is_none (path_fault user_limits p)) (not (is_reserved (names_of p))) h in
    (none_is (path_fault user_limits p) parts.0, not-true (is_reserved (names_of p)) parts.1)

pub free_test : (p : List ℕ) → IsFreePath p → is_free_path p ≡ true
free_test p h = λ i. is_none (h.0 i) && not (h.1 i)

pub id_means : (t : List ℕ) → is_mod_id t ≡ true → IsModId t
id_means t h = none_is (id_fault t) h

pub id_test : (t : List ℕ) → IsModId t → is_mod_id t ≡ true
id_test t h = ap is_none h

pub row_means : (r : Row) → has_good_paths r ≡ true → IsRow r
row_means r h =
    let outer = and_parts (is_mod_id r.mod_id && is_free_path r.path) (is_free_path r.source) h in
    let inner = and_parts (is_mod_id r.mod_id) (is_free_path r.path) outer.0 in
    record { path = free_means r.path inner.1; mod_id = id_means r.mod_id inner.0; source = free_means r.source outer.1 }

pub row_test : (r : Row) → IsRow r → has_good_paths r ≡ true
row_test r h = λ i. (id_test r.mod_id h.mod_id i && free_test r.path h.path i) && free_test r.source h.source i
