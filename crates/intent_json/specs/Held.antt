-- What holds of each place and manifest that code has, and so of each plan and intent.
use Rattle.std.specs.Prelude.{◌≡◌, Option, None, Some}
use Rattle.std.specs.List.{AllByRecursion}
use Rattle.tree_fs.specs.declared.place.Place.{Place}
use Rattle.tree_fs.specs.Texts.{place_text, place_fault}
use Rattle.manifest_json.specs.declared.manifest.Manifest.{Manifest}
use Rattle.manifest_json.specs.Whole.{IsManifest}
use Rattle.move_plan.specs.declared.plan.SetRow.{SetRow}
use Rattle.move_plan.specs.declared.plan.Plan.{Plan}

-- the text of the place has no fault
abbrev pub IsHeld : Place → Type 0
IsHeld p = place_fault (place_text p) ≡ None

abbrev pub IsHeldOption : Option Place → Type 0
IsHeldOption None = Unit {0}
IsHeldOption (Some p) = IsHeld p

pub record IsHeldPair (s : Place × Place) : Type 0 where
  pub from : IsHeld s.0
  pub to : IsHeld s.1

pub record IsHeldSet (s : SetRow) : Type 0 where
  pub to : IsHeld s.to
  pub from : IsHeldOption s.from
  pub back : IsHeldOption s.back

abbrev pub IsHeldManifest : Option Manifest → Type 0
IsHeldManifest None = Unit {0}
IsHeldManifest (Some m) = IsManifest m

pub record IsHeldPlan (plan : Plan) : Type 0 where
  pub folders : AllByRecursion IsHeld plan.folders
  pub saves : AllByRecursion IsHeldPair plan.saves
  pub sets : AllByRecursion IsHeldSet plan.sets
  pub manifest : IsHeldManifest plan.manifest
  pub clears : AllByRecursion IsHeld plan.clears
  pub folders_off : AllByRecursion IsHeld plan.folders_off
