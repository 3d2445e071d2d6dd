-- The folders above places below `keep`.
use Rattle.std.specs.Prelude.{◌≡◌, ◌≢◌, ◌↔◌, ℕ, Bool, true, ◌&&◌, if◌then◌else◌, List, [], ◌∷◌, ◌++◌, codes}
use Rattle.std.specs.List.{Contains}
use Rattle.std.specs.Str.{bytes_eq}
use Rattle.std.specs.declared.option.Option.{Option}
use Rattle.std.specs.declared.option.Option.TheVariants.{None, Some}
use Rattle.rel_paths.specs.Names.{names_of}
use Rattle.tree_fs.specs.declared.place.Root.TheVariants.{Keep}
use Rattle.tree_fs.specs.Spot.{Spot}

-- where a folder below `keep` is made, none where it is the aside folder, and that is there
abbrev pub made_at : Bool → List ℕ → Option Spot
made_at is_there folder =
    if is_there && bytes_eq folder (codes "aside") then None
    else Some (record { root = Keep; names = names_of folder })

-- the names of a folder above one of these places
pub record IsOverOne (places : List (List (List ℕ))) (folder : List (List ℕ)) : Type 0 where
  pub place : List (List ℕ)
  pub among : Contains places place
  pub some : folder ≢ []
  pub name : List ℕ
  pub rest : List (List ℕ)
  pub names : place ≡ folder ++ name ∷ rest

-- just those below `keep`, without the aside folder where it is there
pub record IsAsideFolder (is_there : Bool) (places : List (List (List ℕ))) (s : Spot) : Type 0 where
  pub root : s.root ≡ Keep
  pub over : IsOverOne places s.names
  pub other : is_there ≡ true → s.names ≢ codes "aside" ∷ []

abbrev pub AreAsideFolders : Bool → List (List (List ℕ)) → List Spot → Type 0
AreAsideFolders is_there places spots =
    (s : Spot) → Contains spots s ↔ IsAsideFolder is_there places s
