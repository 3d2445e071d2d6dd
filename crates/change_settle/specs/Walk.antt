-- What one pass over the rows makes, before it is in the order of a plan.
use Rattle.std.specs.Prelude.{ℕ, List, filter_map, option_map}
use Rattle.std.specs.Option.{option_or}
use Rattle.std.specs.declared.option.Option.{Option}
use Rattle.tree_fs.specs.Spot.{Spot}
use Rattle.tree_fs.specs.Places.{game_spot}
use Rattle.tree_fs.specs.Disk.{Disk}
use Rattle.backup_keep.specs.Places.{aside_spot}
use Rattle.manifest_json.specs.declared.manifest.Row.{Row}
use Rattle.change_detect.specs.Classes.{staged_of}
use Rattle.desk_model.specs.Settled.{Choice, Deed, deed_of}
use Rattle.plan_model.specs.Moves.{Move}
use Rattle.plan_model.specs.Lists.{at_place}
use Rattle.change_settle.specs.Deeds.{game_move, stage_move, saved_spot, cleared_spot}

-- the set of a row, at its game path or at its staged place
abbrev pub row_set : Disk → ℕ → Row → Deed → Option (Spot × Move)
row_set a n r d =
    option_or (at_place (game_spot r.path) (game_move a n r d))
    (at_place (staged_of r) (stage_move n r d))

-- the place that a file is saved from, with that where it is set aside
abbrev pub row_save : ℕ → Row → Deed → Option (Spot × Spot)
row_save n r d = option_map (λ x. (x, aside_spot n x)) (saved_spot r d)

abbrev pub settle_sets : Choice → Disk → List Row → ℕ → List (Spot × Move)
settle_sets choice a rows n = filter_map (λ r. row_set a n r (deed_of choice a r)) rows

abbrev pub settle_saves : Choice → Disk → List Row → ℕ → List (Spot × Spot)
settle_saves choice a rows n = filter_map (λ r. row_save n r (deed_of choice a r)) rows

abbrev pub settle_clears : Choice → Disk → List Row → ℕ → List Spot
settle_clears choice a rows n = filter_map (λ r. cleared_spot a n r (deed_of choice a r)) rows
