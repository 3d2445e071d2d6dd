-- Where the sets of a deployment stand, by the case.
use Rattle.std.proofs.Common.{◌≡◌, List, refl}
use Rattle.std.specs.declared.option.Option.TheVariants.{Some}
use Rattle.tree_fs.specs.declared.place.Root.{Root}
use Rattle.tree_fs.specs.declared.place.Root.TheVariants.{Stage, Game, Keep}
use Rattle.tree_fs.specs.Spot.{Spot}
use Rattle.tree_fs.specs.Disk.{Disk}
use Rattle.manifest_json.specs.declared.manifest.Row.{Row}
use Rattle.desk_model.specs.Places.{Names, in_game}
use Rattle.desk_model.specs.Deployed.{Win}
use Rattle.plan_model.specs.Moves.{Move}
use Rattle.deploy_plan.specs.Cases.{Case, case_of, set_by, deploy_moves}

-- where the sets of a deployment stand, by the case
pub data SetCase (a : Disk) (rows : List Row) (wins : List Win) (x : Spot) (v : Move) : Type 0 where
  set_case : (c : Case) → case_of a rows wins x.names ≡ c → in_game x.names ≡ x → set_by a c ≡ Some v → SetCase a rows wins x v

pub set_tells : (a : Disk) (rows : List Row) (wins : List Win) (x : Spot) (v : Move) → (deploy_moves a rows wins).sets x ≡ Some v → SetCase a rows wins x v
set_tells a rows wins x v e = by_root x.root x.names e
  where
    by_root : (r : Root) (p : Names) → (deploy_moves a rows wins).sets (record { root = r; names = p }) ≡ Some v → SetCase a rows wins (record { root = r; names = p }) v
    by_root Stage p e = absurd (cc)
    by_root Game p e = set_case (case_of a rows wins p) refl refl e
    by_root Keep p e = absurd (cc)
