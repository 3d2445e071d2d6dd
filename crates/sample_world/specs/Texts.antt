-- The mods of the sample, the names of its files, and their bytes.
use Rattle.std.specs.Prelude.{ℕ, zero, suc, ◌+◌, ◌/◌, ◌%◌, List, [], ◌∷◌, ◌++◌, codes, decimal}

-- a number in so many decimal digits, with zeros in front
abbrev pub padded : ℕ → ℕ → List ℕ
padded zero n = []
padded (suc width) n = padded width (n / 10) ++ (48 + n % 10) ∷ []

-- how many mods the sample of a number has
unfoldable pub mods_of : ℕ → ℕ
mods_of number = 20 + number % 181

-- the id of mod i
unfoldable pub mod_id : ℕ → List ℕ
mod_id i = codes "m" ++ padded 3 i

-- file k lies in a folder with the other files of its hundred
unfoldable pub folder_name : ℕ → List ℕ
folder_name k = codes "d" ++ padded 3 (k / 100)

unfoldable pub file_name : ℕ → List ℕ
file_name k = codes "f" ++ (padded 5 k ++ codes ".txt")

-- the path of file k, as `d001/f00123.txt`
abbrev pub file_path : ℕ → List ℕ
file_path k = folder_name k ++ (codes "/" ++ file_name k)

-- the bytes that file k has in mod i, and those that it has in the game
abbrev pub mod_bytes : ℕ → ℕ → List ℕ
mod_bytes i k = decimal i ++ (codes " " ++ decimal k)

abbrev pub game_bytes : ℕ → List ℕ
game_bytes k = codes "game " ++ decimal k
