-- The keys that keep a profile of version 1 from version 2, which has a meaning for them.
use Rattle.std.specs.Prelude.{ℕ, List, Bool, Option, None, Some, is_some, codes, position, if◌then◌else◌}
use Rattle.std.specs.Option.{option_map, option_or}
use Rattle.toml.specs.Data.{Members, get_member}
use Rattle.profile_toml.specs.Faults.{first_fault}
use Rattle.profile_toml.specs.KeyPaths.{keyed, indexed}
use Rattle.profile_toml.specs.Records.{RuleData, ModData, ProfileData}
use Rattle.profile_edit.specs.declared.upgrade.NewKey.{NewKey}
use Rattle.profile_edit.specs.declared.upgrade.NewKey.TheVariants.{Fold, Types, Release, ModType, Range}

-- the key path of a key
abbrev pub path_of : NewKey → List ℕ
path_of Fold = codes "fold"
path_of Types = codes "types"
path_of (Release i) = keyed (indexed (codes "mods") i) (codes "release")
path_of (ModType i) = keyed (indexed (codes "mods") i) (codes "type")
path_of (Range i j) =
    keyed (indexed (keyed (indexed (codes "mods") i) (codes "rules")) j) (codes "range")

-- whether there is a value at the key
abbrev pub has_key : List ℕ → Members → Bool
has_key key ms = is_some (get_member key ms)

-- this key, where the test holds
abbrev pub key_if : Bool → NewKey → Option NewKey
key_if test key = if test then Some key else None

-- the first such key of the mod with an index: its release, its type, the range of its first rule
-- that has one
abbrev pub mod_key : ℕ → List ℕ × ModData → Option NewKey
mod_key i m =
    option_or (key_if (has_key (codes "release") m.1.extra) (Release i))
    (option_or (key_if (has_key (codes "type") m.1.extra) (ModType i))
    (option_map (λ j. Range i j) (position (λ r. has_key (codes "range") r.extra) m.1.rules)))

-- the first such key of a profile: `fold`, `types`, then by mod
abbrev pub first_new_key : ProfileData → Option NewKey
first_new_key p =
    option_or (key_if (has_key (codes "fold") p.extra) Fold)
    (option_or (key_if (has_key (codes "types") p.extra) Types) (first_fault mod_key 0 p.mods))
