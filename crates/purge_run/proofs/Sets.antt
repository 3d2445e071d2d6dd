-- Where the sets of a purge stand, by what is found there.
use Rattle.std.proofs.Common.{◌≡◌, ℕ, List, refl}
use Rattle.std.specs.declared.option.Option.TheVariants.{Some}
use Rattle.tree_fs.specs.declared.place.Root.{Root}
use Rattle.tree_fs.specs.declared.place.Root.TheVariants.{Stage, Game, Keep}
use Rattle.tree_fs.specs.Spot.{Spot}
use Rattle.tree_fs.specs.Disk.{Disk}
use Rattle.manifest_json.specs.declared.manifest.Row.{Row}
use Rattle.desk_model.specs.Places.{Names, in_game}
use Rattle.plan_model.specs.Moves.{Move}
use Rattle.purge_run.specs.Holds.{Hold, hold_of, purge_set, purge_moves}

-- where the sets of a purge stand, by what is found there
pub data HoldCase (a : Disk) (rows : List Row) (n : ℕ) (x : Spot) (v : Move) : Type 0 where
  hold_case : (h : Hold) → hold_of a rows x.names ≡ h → in_game x.names ≡ x → purge_set a n h ≡ Some v → HoldCase a rows n x v

pub set_tells : (a : Disk) (rows : List Row) (n : ℕ) (x : Spot) (v : Move) → (purge_moves a rows n).sets x ≡ Some v → HoldCase a rows n x v
set_tells a rows n x v e = by_root x.root x.names e
  where
    by_root : (r : Root) (p : Names) → (purge_moves a rows n).sets (record { root = r; names = p }) ≡ Some v → HoldCase a rows n (record { root = r; names = p }) v
    by_root Stage p e = absurd (cc)
    by_root Game p e = hold_case (hold_of a rows p) refl refl e
    by_root Keep p e = absurd (cc)
