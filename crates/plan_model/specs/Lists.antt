-- Entries of a plan, told by spots.
use Rattle.std.specs.declared.option.Option.{Option}
use Rattle.std.specs.declared.option.Option.TheVariants.{None, Some}
use Rattle.tree_fs.specs.declared.place.Place.{Place}
use Rattle.tree_fs.specs.Spot.{Spot, spot_of}
use Rattle.move_plan.specs.declared.plan.SetRow.{SetRow}
use Rattle.plan_model.specs.Moves.{Move, move_of}

-- a set: two sets of one place with one move are told alike
abbrev pub spotted : SetRow → Spot × Move
spotted row = (spot_of row.to, move_of row)

-- the ends of a save
abbrev pub ends_of : Place × Place → Spot × Spot
ends_of s = (spot_of s.0, spot_of s.1)

-- a place with its move, where it has one
abbrev pub at_place : Spot → Option Move → Option (Spot × Move)
at_place x None = None
at_place x (Some v) = Some (x, v)
