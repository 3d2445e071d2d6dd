-- Reading goes from folder to folder.
use Rattle.std.proofs.Common.{◌≡◌, ℕ, ◌+◌, true, false, List, ◌∷◌, Option, None, Some, Ok, Err, reverse, ap, sym, subst, ◌∙◌}
use Rattle.std.proofs.lemmas.List.{reverse-reverse}
use Rattle.serde_json.specs.Data.{Data}
use Rattle.serde_json.specs.Find.{as_str}
use Rattle.manifest_json.specs.declared.spot.Spot.TheVariants.{Folder}
use Rattle.manifest_json.specs.declared.error.ManifestError.{ManifestError}
use Rattle.manifest_json.specs.declared.error.ManifestError.TheVariants.{Shape, BadPath, Order}
use Rattle.manifest_json.specs.Paths.{is_above, is_free_path, AreRising}
use Rattle.manifest_json.specs.Answers.{checked, or_fault, and_then}
use Rattle.manifest_json.specs.Folders.{folder_alone, folders_from}
use Rattle.rel_paths.specs.Names.{IsFreePath}
use Rattle.manifest_json.proofs.Good.{free_means}
use Rattle.manifest_json.proofs.Steps.{checked-ok}
use Rattle.manifest_json.proofs.Lines.{AreSteps}
use Rattle.manifest_json.proofs.RowScans.{steps_rise}

module _ (earlier : List (List ℕ)) (i : ℕ) (d : Data) (ds : List Data) where
  pub folder_hit : (e : ManifestError) → folder_alone i d ≡ Err e → folders_from earlier i (d ∷ ds) ≡ Err e
  folder_hit e h = rw h

  pub folder_order : (p : List ℕ) → folder_alone i d ≡ Ok p → is_above earlier p ≡ false → folders_from earlier i (d ∷ ds) ≡ Err (Order (Folder i))
  folder_order p h k = rw (h, k)

  pub folder_more : (p : List ℕ) → folder_alone i d ≡ Ok p → is_above earlier p ≡ true → folders_from earlier i (d ∷ ds) ≡ folders_from (p ∷ earlier) (i + 1) ds
  folder_more p h k = rw (h, k)

free_from : (i : ℕ) (t : Option (List ℕ)) (p : List ℕ) → and_then (or_fault t (Shape (Folder i))) (λ q. checked (is_free_path q) (BadPath (Folder i)) q) ≡ Ok p → is_free_path p ≡ true
free_from i None p h = let never : ⊥ = cc in absurd never
free_from i (Some q) p h = let parts = checked-ok (is_free_path q) (BadPath (Folder i)) q p h in ap is_free_path (sym parts.1) ∙ parts.0

-- a folder that is read is a path that isn't reserved
pub folder_free : (i : ℕ) (d : Data) (p : List ℕ) → folder_alone i d ≡ Ok p → IsFreePath p
unfolding folder_alone
folder_free i d p h = free_means p (free_from i (as_str d) p h)

pub folders_rise : (ps : List (List ℕ)) → AreSteps (reverse ps) → AreRising ps
folders_rise ps h = subst AreRising (reverse-reverse ps) (steps_rise (reverse ps) h)
