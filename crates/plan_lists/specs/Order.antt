-- Lists of places, before they are in a plan's order.
use Rattle.std.specs.Prelude.{◌↔◌, List}
use Rattle.std.specs.List.{Contains}
use Rattle.tree_fs.specs.Spot.{Spot}

-- the one has just the places of the other
abbrev pub HasSameSpots : List Spot → List Spot → Type 0
HasSameSpots spots others = (x : Spot) → Contains spots x ↔ Contains others x
