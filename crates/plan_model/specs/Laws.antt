-- The laws of plans, as claims.
use Rattle.std.specs.Prelude.{◌↔◌, ℕ, List}
use Rattle.tree_fs.specs.Spot.{Spot}
use Rattle.tree_fs.specs.Disk.{Disk, IsValid}
use Rattle.move_plan.specs.declared.plan.Plan.{Plan}
use Rattle.plan_model.specs.Folders.{GoesOff, EntriesGo}

-- a folder goes just where it is listed, and each of its entries holds nothing then, or is a folder
-- that goes
abbrev pub GoesByEntries : Type 0
GoesByEntries =
    (a : Disk) (own : List (List ℕ)) (plan : Plan) → IsValid a
    → (s : Spot) → (GoesOff a own plan s ↔ EntriesGo a own plan s)
