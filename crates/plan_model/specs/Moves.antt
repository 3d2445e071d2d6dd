-- What a plan moves, place by place, and the lists that say it.
use Rattle.std.specs.Prelude.{◌≡◌, ◌↔◌}
use Rattle.std.specs.Option.{option_map}
use Rattle.std.specs.List.{Contains}
use Rattle.std.specs.declared.option.Option.{Option}
use Rattle.std.specs.declared.option.Option.TheVariants.{None, Some}
use Rattle.tree_fs.specs.declared.place.Root.{Root}
use Rattle.tree_fs.specs.declared.place.Root.TheVariants.{Stage, Game, Keep}
use Rattle.tree_fs.specs.Spot.{Spot, spot_of}
use Rattle.move_plan.specs.declared.plan.SetRow.{SetRow}
use Rattle.move_plan.specs.declared.plan.Plan.{Plan}
use Rattle.move_plan.specs.Places.{IsSaved, IsClear}
use Rattle.move_plan.specs.Rules.{KeepsRule, in_order}
use Rattle.desk_model.specs.Places.{Names}

-- where a place takes its file from, and where the file that stood there stays
pub record Move : Type 0 where
  pub from : Option Spot
  pub back : Option Spot

abbrev pub move_of : SetRow → Move
move_of row = record { from = option_map spot_of row.from; back = option_map spot_of row.back }

-- what a command sets, saves (from the first place to the second) and clears
pub record Moves : Type 1 where
  pub sets : Spot → Option Move
  pub saves : Spot → Spot → Type 0
  pub clears : Spot → Type 0

-- the plan sets this place so
pub record IsMoved (plan : Plan) (x : Spot) (v : Move) : Type 0 where
  pub row : SetRow
  pub listed : Contains plan.sets row
  pub here : spot_of row.to ≡ x
  pub is : move_of row ≡ v

-- a column of the game folder
abbrev pub at_game : {A : Type 0} → (Names → Option A) → Root → Names → Option A
at_game f Stage p = None
at_game f Game p = f p
at_game f Keep p = None

-- the lists of a plan say what is moved, each in its order
pub record LaidOut (m : Moves) (plan : Plan) : Type 0 where
  pub sets : (x : Spot) (v : Move) → (IsMoved plan x v ↔ m.sets x ≡ Some v)
  pub saves : (from to : Spot) → (IsSaved plan from to ↔ m.saves from to)
  pub clears : (x : Spot) → (IsClear plan x ↔ m.clears x)
  pub order : KeepsRule in_order plan
