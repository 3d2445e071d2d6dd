-- Which folders a purge makes.
use Rattle.std.specs.Prelude.{◌≡◌, ℕ, true, false, List}
use Rattle.std.specs.List.{Contains}
use Rattle.tree_fs.specs.Spot.{Spot, IsBelow}
use Rattle.tree_fs.specs.Disk.{Disk}
use Rattle.manifest_json.specs.declared.manifest.Row.{Row}
use Rattle.desk_model.specs.Purged.{stands_over}
use Rattle.purge_run.specs.Holds.{aside_at}

-- a missing folder above the place where the file of a row is set aside
pub record IsMissingAside (a : Disk) (rows : List Row) (n : ℕ) (s : Spot) : Type 0 where
  pub missing : a.folders s ≡ false
  pub row : Row
  pub listed : Contains rows row
  pub over : stands_over a row ≡ true
  pub below : IsBelow s (aside_at n row.path)
