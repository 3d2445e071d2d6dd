-- Where the places of the program lie.
use Rattle.std.specs.Prelude.{List, ℕ, [], ◌∷◌, if◌then◌else◌}
use Rattle.std.specs.declared.option.Option.{Option}
use Rattle.std.specs.declared.option.Option.TheVariants.{None, Some}
use Rattle.rel_paths.specs.Names.{names_of}
use Rattle.tree_fs.specs.declared.place.Root.TheVariants.{Stage, Game}
use Rattle.tree_fs.specs.Spot.{Spot, has_some, parent}

-- where a path lies in the game folder
abbrev pub game_spot : List ℕ → Spot
game_spot path = record { root = Game; names = names_of path }

-- where a mod is unpacked
abbrev pub mod_spot : List ℕ → Spot
mod_spot id = record { root = Stage; names = id ∷ [] }

-- where a mod's file of this path is unpacked
abbrev pub staged_spot : List ℕ → List ℕ → Spot
staged_spot id path = record { root = Stage; names = id ∷ names_of path }

-- the folder that a place lies in, which a root doesn't have
abbrev pub folder_above : Spot → Option Spot
folder_above s = if has_some s.names then Some (parent s) else None
