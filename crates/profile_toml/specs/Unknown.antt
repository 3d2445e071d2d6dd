-- The keys of a table that a profile has no meaning for.
use Rattle.std.specs.Prelude.{◌≡◌, ◌≤◌, ℕ, List, [], ◌∷◌, Bool, false, None, if◌then◌else◌}
use Rattle.std.specs.List.{AllByRecursion}
use Rattle.toml.specs.Data.{Members, no_members, member, get_member, same_key}
use Rattle.profile_toml.specs.Levels.{members_levels}
use Rattle.profile_toml.specs.Floats.{members_have_float}
use Rattle.profile_toml.specs.Tables.{Table, known_keys, room}

-- the members whose key is another, in their order
abbrev pub without_key : List ℕ → Members → Members
without_key k no_members = no_members
without_key k (member l d ms) =
    if same_key k l then without_key k ms else member l d (without_key k ms)

-- the members whose keys are none of these, in their order
abbrev pub without : List (List ℕ) → Members → Members
without [] ms = ms
without (k ∷ ks) ms = without ks (without_key k ms)

-- the members that a version has no meaning for
abbrev pub unknown_in : ℕ → Table → Members → Members
unknown_in version at ms = without (known_keys version at) ms

-- no member has one of these keys
abbrev pub HaveNone : List (List ℕ) → Members → Type 0
HaveNone keys ms = AllByRecursion (λ k. get_member k ms ≡ None) keys

-- the unknown members of a table: they have none of the keys that the version has a meaning for,
-- no value that lies too deep, no float and no date that isn't printed
pub record AreUnknown (version : ℕ) (at : Table) (ms : Members) : Type 0 where
  pub others : HaveNone (known_keys version at) ms
  pub shallow : members_levels ms ≤ room at
  pub no_floats : members_have_float ms ≡ false
