-- The folders above paths, by their names.
use Rattle.std.specs.Prelude.{◌≡◌, ◌≢◌, ◌⊎◌, ◌↔◌, ℕ, true, List, [], ◌∷◌, ◌++◌, map}
use Rattle.std.specs.List.{Contains, starts_with}
use Rattle.std.specs.Str.{bytes_eq}
use Rattle.rel_paths.specs.Names.{names_of}

-- the names of a folder above the path
pub record IsAbove (path : List ℕ) (folder : List (List ℕ)) : Type 0 where
  pub some : folder ≢ []
  pub name : List ℕ
  pub rest : List (List ℕ)
  pub names : names_of path ≡ folder ++ name ∷ rest

-- the names of a folder above one of these
pub record IsAboveOne (paths : List (List ℕ)) (folder : List (List ℕ)) : Type 0 where
  pub path : List ℕ
  pub among : Contains paths path
  pub above : IsAbove path folder

-- one of these begins with the folder's names
pub record IsInOne (paths : List (List ℕ)) (folder : List ℕ) : Type 0 where
  pub path : List ℕ
  pub among : Contains paths path
  pub begins : starts_with bytes_eq (names_of path) (names_of folder) ≡ true

-- with each path the folders above it are among these
abbrev pub HasFoldersAbove : List (List ℕ) → Type 0
HasFoldersAbove paths =
    (path : List ℕ) (folder : List (List ℕ)) → Contains paths path → IsAbove path folder
    → Contains (map names_of paths) folder

-- the folders above the path come to these, and no others
abbrev pub AddsAbove : List ℕ → (old new : List (List ℕ)) → Type 0
AddsAbove path old new =
    (folder : List (List ℕ))
    → (Contains (map names_of new) folder
    ↔ Contains (map names_of old) folder ⊎ IsAbove path folder)
