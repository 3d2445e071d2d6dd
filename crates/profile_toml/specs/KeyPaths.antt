-- Key paths, as `mods[3].rules[0].kind`.
use Rattle.std.specs.Prelude.{ℕ, List, [], ◌∷◌, ◌++◌, codes, decimal}
use Rattle.profile_toml.specs.declared.key_path.TablePath.{TablePath}
use Rattle.profile_toml.specs.declared.key_path.TablePath.TheVariants.{ModType, Mod, Rule, Override}

-- the key path of a key in the table at a key path, and of an item of the array at one
abbrev pub keyed : List ℕ → List ℕ → List ℕ
keyed at key = at ++ 46 ∷ key

abbrev pub indexed : List ℕ → ℕ → List ℕ
indexed at n = at ++ 91 ∷ decimal n ++ 93 ∷ []

-- the key path of a table
abbrev pub path_of : TablePath → List ℕ
path_of (ModType i) = indexed (codes "types") i
path_of (Mod i) = indexed (codes "mods") i
path_of (Rule i j) = indexed (keyed (indexed (codes "mods") i) (codes "rules")) j
path_of (Override i) = indexed (codes "overrides") i
