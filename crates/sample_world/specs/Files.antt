-- The files of the sample: where each lies, and its bytes.
use Rattle.std.specs.Prelude.{ℕ, ◌+◌, ◌*◌, ◌/◌, ◌%◌, ◌==◌, ◌&&◌, Bool, List, [], ◌∷◌, ◌++◌, map, filter}
use Rattle.std.specs.List.{range_with_len, flat_map}
use Rattle.rel_paths.specs.declared.control.Control.TheVariants.{Profile}
use Rattle.tree_fs.specs.declared.place.Root.TheVariants.{Stage, Game}
use Rattle.tree_fs.specs.Spot.{Spot}
use Rattle.tree_fs.specs.Texts.{control_spot}
use Rattle.sample_world.specs.Texts.{mods_of, mod_id, folder_name, file_name, mod_bytes, game_bytes}

pub record WorldFile : Type 0 where
  pub at : Spot
  pub bytes : List ℕ

-- file k in mod i
abbrev pub mod_file : ℕ → ℕ → WorldFile
mod_file i k = record {
  at = record { root = Stage; names = mod_id i ∷ folder_name k ∷ file_name k ∷ [] };
  bytes = mod_bytes i k;
}

-- each mod has a hundred files, of which the next mod has the second half too
abbrev pub mod_files : ℕ → List WorldFile
mod_files i = map (mod_file i) (range_with_len (50 * i) 100)

abbrev pub stage_files : ℕ → List WorldFile
stage_files number = flat_map mod_files (range_with_len 0 (mods_of number))

-- file k in the game
abbrev pub game_file : ℕ → WorldFile
game_file k = record {
  at = record { root = Game; names = folder_name k ∷ file_name k ∷ [] };
  bytes = game_bytes k;
}

-- whether the game has file k: one in seven, of every other hundred
abbrev pub is_in_game : ℕ → ℕ → Bool
is_in_game number k = k / 100 % 2 == 0 && k % 7 == number % 7

abbrev pub game_files : ℕ → List WorldFile
game_files number =
    map game_file (filter (is_in_game number) (range_with_len 0 (50 * (mods_of number + 1))))

-- the profile, of which more than one text may be the layout
abbrev pub profile_file : List ℕ → WorldFile
profile_file text = record { at = control_spot Profile; bytes = text }

-- all files of the sample, with this text as its profile
abbrev pub sample_files : ℕ → List ℕ → List WorldFile
sample_files number text = stage_files number ++ (game_files number ++ profile_file text ∷ [])
