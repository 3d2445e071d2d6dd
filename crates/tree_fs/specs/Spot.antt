-- Places of a disk.
use Rattle.std.specs.Prelude.{◌≡◌, ℕ, Bool, true, false, ◌&&◌, List, [], ◌∷◌, ◌++◌}
use Rattle.std.specs.declared.option.Option.{Option}
use Rattle.std.specs.declared.option.Option.TheVariants.{None, Some}
use Rattle.std.specs.Cmp.Lexicographic.{pointwise}
use Rattle.std.specs.Str.{bytes_eq}
use Rattle.rel_paths.specs.Names.{names_of}
use Rattle.tree_fs.specs.declared.place.Root.{Root}
use Rattle.tree_fs.specs.declared.place.Root.TheVariants.{Stage, Game, Keep}
use Rattle.tree_fs.specs.declared.place.Place.{Place}

-- a place of a disk: a root and any number of names, no names being the root itself
pub record Spot : Type 0 where
  pub root : Root
  pub names : List (List ℕ)

abbrev pub names_below : Option (List ℕ) → List (List ℕ)
names_below None = []
names_below (Some text) = names_of text

-- where a place of the program lies on a disk
abbrev pub spot_of : Place → Spot
spot_of p = record { root = p.root; names = names_below p.rel }

abbrev pub root_spot : Root → Spot
root_spot r = record { root = r; names = [] }

abbrev pub root_eq : Root → Root → Bool
root_eq Stage Stage = true
root_eq Game Game = true
root_eq Keep Keep = true
root_eq _ _ = false

unfoldable pub spot_eq : Spot → Spot → Bool
spot_eq p q = root_eq p.root q.root && pointwise bytes_eq p.names q.names

-- all names but the last
abbrev pub front_names : List (List ℕ) → List (List ℕ)
front_names [] = []
front_names (x ∷ []) = []
front_names (x ∷ y ∷ ys) = x ∷ front_names (y ∷ ys)

-- the folder that a place lies in; a root lies in itself
unfoldable pub parent : Spot → Spot
parent p = record { root = p.root; names = front_names p.names }

abbrev pub has_some : List (List ℕ) → Bool
has_some [] = false
has_some (x ∷ xs) = true

-- whether a place is a direct entry of the folder
unfoldable pub is_entry : Spot → Spot → Bool
is_entry folder q = has_some q.names && spot_eq (parent q) folder

-- the entry of a folder that has this name
abbrev pub below : Spot → List ℕ → Spot
below folder name = record { root = folder.root; names = folder.names ++ name ∷ [] }

-- x lies somewhere below s
pub record IsBelow (s x : Spot) : Type 0 where
  pub root : x.root ≡ s.root
  pub name : List ℕ
  pub rest : List (List ℕ)
  pub names : x.names ≡ s.names ++ name ∷ rest
