-- The document that is printed of a profile.
use Rattle.std.specs.Prelude.{ℕ, List, [], ◌∷◌, Option, None, Some, map, option_map, codes, pos, nat_eq, if◌then◌else◌}
use Rattle.std.specs.Ordering.{match_ordering, nat_cmp}
use Rattle.std.specs.Cmp.Lexicographic.{slice_cmp}
use Rattle.toml.specs.Data.{Data, string, integer, boolean, array, table, Members, no_members, member}
use Rattle.toml.specs.View.{items_of}
use Rattle.profile_toml.specs.Records.{RuleData, ModData, OverrideData, TypeData, ProfileData}
use Rattle.profile_toml.specs.Rules.{word_of}

-- the members, with d at k
abbrev pub put_member : List ℕ → Data → Members → Members
put_member k d no_members = member k d no_members
put_member k d (member l e ms) =
    match_ordering (slice_cmp nat_cmp k l)
    (member k d (member l e ms)) (member l d ms) (member l e (put_member k d ms))

-- the members, with what there is at k
abbrev pub put_if : List ℕ → Option Data → Members → Members
put_if k None ms = ms
put_if k (Some d) ms = put_member k d ms

-- the members, with these keys and what there is at each
abbrev pub puts : List (List ℕ × Option Data) → Members → Members
puts [] ms = ms
puts (e ∷ es) ms = put_if e.0 e.1 (puts es ms)

abbrev pub rule_keys : RuleData → List (List ℕ × Option Data)
rule_keys r =
    (codes "kind", Some (string (word_of r.kind)))
    ∷ (codes "ref", Some (string r.refers))
    ∷ (codes "range", option_map string r.range)
    ∷ []

abbrev pub rule_data : RuleData → Data
rule_data r = table (puts (rule_keys r) r.extra)

abbrev pub type_keys : TypeData → List (List ℕ × Option Data)
type_keys t = (codes "id", Some (string t.id)) ∷ (codes "base", Some (string t.base)) ∷ []

abbrev pub type_data : TypeData → Data
type_data t = table (puts (type_keys t) t.extra)

abbrev pub rules_data : List RuleData → Data
rules_data rs = array (items_of (map rule_data rs))

abbrev pub mod_keys : List ℕ × ModData → List (List ℕ × Option Data)
mod_keys m =
    (codes "id", Some (string m.0))
    ∷ (codes "enabled", Some (boolean m.1.enabled))
    ∷ (codes "release", option_map string m.1.release)
    ∷ (codes "type", option_map string m.1.mod_type)
    ∷ (codes "rules", Some (rules_data m.1.rules))
    ∷ []

abbrev pub mod_data : List ℕ × ModData → Data
mod_data m = table (puts (mod_keys m) m.1.extra)

abbrev pub override_keys : OverrideData → List (List ℕ × Option Data)
override_keys o = (codes "path", Some (string o.path)) ∷ (codes "mod", Some (string o.mod_id)) ∷ []

abbrev pub override_data : OverrideData → Data
override_data o = table (puts (override_keys o) o.extra)

-- the types, which stand in version 2
abbrev pub types_data : ℕ → List TypeData → Option Data
types_data version ts =
    if nat_eq version 1 then None else Some (array (items_of (map type_data ts)))

abbrev pub profile_keys : ProfileData → List (List ℕ × Option Data)
profile_keys p =
    (codes "version", Some (integer (pos p.version)))
    ∷ (codes "fold", None)
    ∷ (codes "types", types_data p.version p.types)
    ∷ (codes "mods", Some (array (items_of (map mod_data p.mods))))
    ∷ (codes "overrides", Some (array (items_of (map override_data p.overrides))))
    ∷ []

abbrev pub profile_members : ProfileData → Members
profile_members p = puts (profile_keys p) p.extra
