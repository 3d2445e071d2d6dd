-- The case of a path, by what was found there.
use Rattle.std.proofs.Common.{◌≡◌, false, sym, ap, ◌∙◌, inl}
use Rattle.tree_fs.specs.declared.name.Kind.TheVariants.{Absent, File}
use Rattle.tree_fs.specs.Spot.{parent}
use Rattle.tree_fs.specs.Places.{game_spot}
use Rattle.tree_fs.specs.Disk.{Disk, IsValid}
use Rattle.tree_fs.proofs.Spots.{not_nameless}
use Rattle.tree_fs.proofs.KindOf.{kind-absent}
use Rattle.desk_model.specs.Desk.{is_file}
use Rattle.desk_model.specs.Deployed.{Win}
use Rattle.deploy_plan.specs.Walk.{win_alone}
use Rattle.deploy_plan.specs.Refusals.{HasOpenParents}
use Rattle.deploy_plan.specs.Steps.{IsFreeStep}
use Rattle.deploy_plan.specs.Told.{coming, told, told_win}
use Rattle.deploy_plan.proofs.Parented.{absent_inside}

-- below a missing folder
pub missing_told : (a : Disk) (w : Win) → IsValid a → a.folders (parent (game_spot w.path)) ≡ false → coming w ≡ told a (win_alone w)
missing_told a w valid e =
    let none = (kind-absent a (game_spot w.path) (absent_inside a (game_spot w.path) valid (not_nameless w.path) e).0).1 in
    sym (ap (λ v. told_win w (is_file v)) none)

pub missing_free : (a : Disk) (w : Win) → IsValid a → a.folders (parent (game_spot w.path)) ≡ false → HasOpenParents a (game_spot w.path) → IsFreeStep a (win_alone w)
missing_free a w valid e up =
    let absent = (absent_inside a (game_spot w.path) valid (not_nameless w.path) e).0 in
    (up, inl absent, λ is. let no : Absent ≡ File = sym absent ∙ is in absurd (cc))
