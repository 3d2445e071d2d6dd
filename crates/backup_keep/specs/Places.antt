-- Where files are kept while a deployment stands.
use Rattle.std.specs.Prelude.{◌≡◌, ℕ, List, ◌∷◌, [], codes}
use Rattle.std.specs.Fmt.{decimal}
use Rattle.rel_paths.specs.Names.{names_of, backup_names, IsUserPath, IsModId}
use Rattle.tree_fs.specs.declared.place.Root.TheVariants.{Game, Keep}
use Rattle.tree_fs.specs.Spot.{Spot}
use Rattle.tree_fs.specs.Places.{game_spot, staged_spot}
use Rattle.tree_fs.specs.Texts.{root_word}

-- the backup place of a path
abbrev pub backup_spot : List ℕ → Spot
backup_spot path = record { root = Game; names = backup_names (names_of path) }

-- the folder that keeps what was set aside
abbrev pub aside_folder : Spot
aside_folder = record { root = Keep; names = codes "aside" ∷ [] }

-- the place where the file of a place is set aside under a number
abbrev pub aside_spot : ℕ → Spot → Spot
aside_spot number x = record { root = Keep; names = codes "aside" ∷ decimal number ∷ root_word x.root ∷ x.names }

-- a place whose file may be set aside: that of a path in the game folder, or of a mod's file
pub data IsOrigin (x : Spot) : Type 0 where
  in_game : (path : List ℕ) → IsUserPath path → x ≡ game_spot path → IsOrigin x
  in_mod : (id path : List ℕ) → IsModId id → IsUserPath path → x ≡ staged_spot id path → IsOrigin x
