-- The lists of a plan, before they are in its order.
use Rattle.std.specs.Prelude.{◌≡◌, ℕ, List}
use Rattle.std.specs.List.{Contains}
use Rattle.std.specs.Option.{option_map}
use Rattle.std.specs.declared.option.Option.{Option}
use Rattle.std.specs.declared.option.Option.TheVariants.{Some}
use Rattle.tree_fs.specs.declared.place.Place.{Place}
use Rattle.tree_fs.specs.Spot.{Spot, spot_of}
use Rattle.tree_fs.specs.Places.{game_spot}
use Rattle.backup_keep.specs.Places.{aside_spot}
use Rattle.manifest_json.specs.declared.manifest.Row.{Row}
use Rattle.move_plan.specs.declared.plan.SetRow.{SetRow}
use Rattle.plan_model.specs.Moves.{Move}

-- a set as it is sorted
abbrev pub SetKey : Type 0
SetKey = Place × (Option Place × Option Place)

abbrev pub keyed : SetKey → Spot × Move
keyed k = (
  spot_of k.0,
  record { from = option_map spot_of k.1.0; back = option_map spot_of k.1.1 },
)

-- each place has one move
abbrev pub IsFunction : List (Spot × Move) → Type 0
IsFunction sets = (x : Spot) (v w : Move) → Contains sets (x, v) → Contains sets (x, w) → v ≡ w

-- the game path of a row takes a file, and the found one is set aside
abbrev pub over_game : ℕ → Row → Option Spot → Spot × Move
over_game n r from =
    (game_spot r.path, record { from = from; back = Some (aside_spot n (game_spot r.path)) })

-- the file that stood at the place of a set is saved to where it stays
abbrev pub saved_by : SetRow → Option (Place × Place)
saved_by row = option_map {U = Place × Place} (λ back. (row.to, back)) row.back
