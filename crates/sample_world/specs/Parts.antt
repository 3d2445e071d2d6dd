-- The parts of the sample as far as they are put.
use Rattle.std.specs.Prelude.{ℕ, ◌*◌, List, ◌++◌, map, filter}
use Rattle.std.specs.List.{range_with_len, flat_map}
use Rattle.profile_toml.specs.Records.{OverrideData}
use Rattle.sample_world.specs.Files.{WorldFile, mod_file, mod_files, stage_files, game_file, is_in_game}
use Rattle.sample_world.specs.Profiles.{has_override, sample_override}
use Rattle.sample_world.specs.Texts.{file_path}

-- those of the mods below mod i
unfoldable pub mods_below : ℕ → List WorldFile
mods_below i = flat_map mod_files (range_with_len 0 i)

-- and the first so many of mod i
unfoldable pub files_below : ℕ → ℕ → List WorldFile
files_below i count = mods_below i ++ map (mod_file i) (range_with_len (50 * i) count)

-- those of all mods, and those of the game below file k
unfoldable pub game_below : ℕ → ℕ → List WorldFile
game_below number k =
    stage_files number ++ map game_file (filter (is_in_game number) (range_with_len 0 k))

-- the overrides to mods below mod i, each at its path
unfoldable pub overrides_below : ℕ → ℕ → List (List ℕ × OverrideData)
overrides_below number i =
    map (λ j. (file_path (50 * j), sample_override j))
    (filter (has_override number) (range_with_len 0 i))
