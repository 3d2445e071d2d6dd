-- Winning paths that lie below the path of a row, or above one.
use Rattle.std.proofs.Common.{◌≡◌, ◌⊎◌, ℕ, true, List, sym, subst, inl, inr}
use Rattle.std.specs.Prelude.{IfOk, IsTrue, ◌↔◌, Bool}
use Rattle.std.specs.List.{Contains}
use Rattle.std.specs.declared.result.Result.{Result}
use Rattle.std.specs.declared.result.Result.TheVariants.{Ok, Err}
use Rattle.list_laws.proofs.Containing.{contains_map, map_contains}
use Rattle.rel_paths.specs.Names.{extends}
use Rattle.manifest_json.specs.declared.manifest.Row.{Row}
use Rattle.manifest_json.specs.Records.{paths_of}
use Rattle.winner_table.specs.Folders.{IsFolderOf}
use Rattle.deploy_plan.specs.Search.{IsBelowOne}
use Rattle.deploy_plan.specs.Refusals.{IsTurned}

module _ (rows : List Row) (path : List ℕ) where
  pub turned_above : IsBelowOne (paths_of rows) path → IsTurned rows path
  turned_above h =
      let m = contains_map (λ (r : Row). r.path) rows h.above h.among in
      record { row = m.0; listed = m.1; turned = inl (subst (λ q. extends path q ≡ true) (sym m.2) h.extending) }

  turned_over : IsFolderOf (paths_of rows) path → IsTurned rows path
  turned_over h =
      let m = contains_map (λ (r : Row). r.path) rows h.below h.among in
      record { row = m.0; listed = m.1; turned = inr (subst (λ q. extends q path ≡ true) (sym m.2) h.extending) }

  turned_cases : IsTurned rows path → IsBelowOne (paths_of rows) path ⊎ IsFolderOf (paths_of rows) path
  turned_cases h = by_side h.turned
    where
      among : Contains (paths_of rows) h.row.path
      among = map_contains (λ (r : Row). r.path) rows h.row h.listed

      by_side : (extends path h.row.path ≡ true) ⊎ (extends h.row.path path ≡ true) → IsBelowOne (paths_of rows) path ⊎ IsFolderOf (paths_of rows) path
      by_side (inl e) = inl (record { above = h.row.path; among = among; extending = e })
      by_side (inr e) = inr (record { below = h.row.path; among = among; extending = e })

  pub turned_by_folder : {E : Type 0} (r : Result Bool E) → (IsBelowOne (paths_of rows) path → ⊥) → IfOk r (λ found. IsTrue found ↔ IsFolderOf (paths_of rows) path) → IfOk r (λ found. IsTrue found ↔ IsTurned rows path)
  turned_by_folder (Err e) none h = tt
  turned_by_folder (Ok found) none h = (
    λ t. turned_over (h.0 t),
    λ is. elim (turned_cases is) [ inl b ↦ absurd (none b) | inr f ↦ h.1 f ],
  )
