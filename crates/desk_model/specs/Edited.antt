-- The desk that an edit of the profile leads to.
use Rattle.std.specs.Prelude.{◌≡◌, ◌↔◌, ℕ, List}
use Rattle.std.specs.declared.option.Option.{Option}
use Rattle.std.specs.declared.option.Option.TheVariants.{None, Some}
use Rattle.tree_fs.specs.Spot.{Spot}
use Rattle.tree_fs.specs.Disk.{Disk}
use Rattle.desk_model.specs.Desk.{Desk, desk, HasBytesOf}

-- the new text, or the old one where there is none
abbrev pub text_or : Option (List ℕ) → Option (List ℕ) → Option (List ℕ)
text_or None old = old
text_or (Some text) old = Some text

-- after an edit the profile has the new text, if there is one, and all else is as it was
pub record Edited (a : Disk) (text : Option (List ℕ)) (new : Desk) : Type 0 where
  pub plain : new.plain ≡ (desk a).plain
  pub manifest : new.manifest ≡ (desk a).manifest
  pub found : new.found ≡ (desk a).found
  pub staged : new.staged ≡ (desk a).staged
  pub aside : new.aside ≡ (desk a).aside
  pub profile : new.profile ≡ text_or text (desk a).profile
  pub folders : (s : Spot) → (new.folders s ↔ (desk a).folders s)
  pub bytes : HasBytesOf new (desk a)
