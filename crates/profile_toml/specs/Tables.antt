-- The tables of a profile: which keys each has a meaning for, and how deep it lies.
use Rattle.std.specs.Prelude.{ℕ, suc, List, [], ◌∷◌, ◌++◌, Option, None, codes, nat_eq, if◌then◌else◌}
use Rattle.toml.specs.Data.{Data, Members, get_member}

-- the document itself, and the tables of types, mods, rules and overrides
pub data Table : Type 0 where
  Document : Table
  OfType : Table
  OfMod : Table
  OfRule : Table
  OfOverride : Table

-- the keys that version 1 has no meaning for
abbrev pub from_2 : ℕ → List (List ℕ) → List (List ℕ)
from_2 version keys = if nat_eq version 1 then [] else keys

-- the keys that a version has a meaning for, in each table
abbrev pub known_keys : ℕ → Table → List (List ℕ)
known_keys version Document =
    codes "version" ∷ from_2 version (codes "fold" ∷ codes "types" ∷ [])
    ++ codes "mods" ∷ codes "overrides" ∷ []
known_keys version OfType = codes "id" ∷ codes "base" ∷ []
known_keys version OfMod =
    codes "id" ∷ codes "enabled" ∷ from_2 version (codes "release" ∷ codes "type" ∷ [])
    ++ codes "rules" ∷ []
known_keys version OfRule = codes "kind" ∷ codes "ref" ∷ from_2 version (codes "range" ∷ [])
known_keys version OfOverride = codes "path" ∷ codes "mod" ∷ []

-- the value at a key that version 1 has no meaning for
abbrev pub member_from_2 : ℕ → List ℕ → Members → Option Data
member_from_2 version key ms = if nat_eq version 1 then None else get_member key ms

-- how many levels a value in the table may have, so that none lies more than 64 levels deep: the
-- document is level 1, a table in an array of the document level 3, and a rule's table level 5
abbrev pub room : Table → ℕ
room Document = 63
room OfRule = 59
room _ = 61
