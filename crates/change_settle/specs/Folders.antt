-- Which folders a settlement makes.
use Rattle.std.specs.Prelude.{◌≡◌, ◌⊎◌, ℕ, false, List}
use Rattle.std.specs.List.{Contains}
use Rattle.std.specs.declared.option.Option.TheVariants.{Some}
use Rattle.tree_fs.specs.Spot.{Spot, IsBelow}
use Rattle.tree_fs.specs.Disk.{Disk}
use Rattle.backup_keep.specs.Places.{aside_spot}
use Rattle.manifest_json.specs.declared.manifest.Row.{Row}
use Rattle.desk_model.specs.Settled.{Choice, Deed, deed_of}
use Rattle.change_settle.specs.Deeds.{saved_spot}
use Rattle.change_settle.specs.Refusals.{restored_spot}

-- a file comes to a place where nothing stood: it is put back there, or set aside
abbrev pub ComesTo : ℕ → Row → Deed → Spot → Type 0
ComesTo n r d x =
    (restored_spot r d ≡ Some x) ⊎ ((y : Spot) × (saved_spot r d ≡ Some y) × (aside_spot n y ≡ x))

-- a missing folder above such a place
pub record IsMissingFor (choice : Choice) (a : Disk) (rows : List Row) (n : ℕ)
    (s : Spot) : Type 0 where
  pub missing : a.folders s ≡ false
  pub row : Row
  pub listed : Contains rows row
  pub place : Spot
  pub comes : ComesTo n row (deed_of choice a row) place
  pub below : IsBelow s place
