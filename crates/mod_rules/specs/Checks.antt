-- The first failing rule.
use Rattle.std.specs.Prelude.{ℕ, List, Bool, false, not, ◌&&◌, Option, map, find}
use Rattle.std.specs.List.{flat_map}
use Rattle.std.specs.Str.{bytes_eq}
use Rattle.profile_toml.specs.declared.rule.RuleKind.{RuleKind}
use Rattle.profile_toml.specs.declared.rule.RuleKind.TheVariants.{Requires, Conflicts}
use Rattle.profile_toml.specs.Records.{ProfileData, ModData, RuleData}
use Rattle.mod_rules.specs.declared.error.RuleError.{RuleError}
use Rattle.mod_rules.specs.declared.error.RuleError.TheVariants.{Missing, Conflict}
use Rattle.mod_rules.specs.Nodes.{nodes_of, is_matching}

-- a mod's rules, each with the mod's id
abbrev pub rules_of : List ℕ × ModData → List (List ℕ × RuleData)
rules_of m = map (λ r. (m.0, r)) m.1.rules

-- the rules of the enabled mods, mods in the profile's order and the rules of each in theirs
abbrev pub rules_in_force : ProfileData → List (List ℕ × RuleData)
rules_in_force profile = flat_map rules_of (nodes_of profile)

-- whether a rule of this kind fails, by whether it matches, and whether it refers to its own mod
abbrev pub kind_fails : RuleKind → Bool → Bool → Bool
kind_fails Requires matching own = not matching
kind_fails Conflicts matching own = matching && not own
kind_fails _ matching own = false

-- whether the rule of the mod with this id fails, among these mods
abbrev pub is_failing : List (List ℕ × ModData) → List ℕ × RuleData → Bool
is_failing mods q = kind_fails q.1.kind (is_matching mods q.1) (bytes_eq q.1.refers q.0)

-- the first rule that fails, with the id of its mod
abbrev pub first_failing_rule : ProfileData → Option (List ℕ × RuleData)
first_failing_rule profile = find (is_failing profile.mods) (rules_in_force profile)

-- what is told of a failing rule
abbrev pub kind_error : RuleKind → List ℕ → List ℕ → RuleError
kind_error Requires id other = Missing id other
kind_error _ id other = Conflict id other

abbrev pub error_of : List ℕ × RuleData → RuleError
error_of q = kind_error q.1.kind q.0 q.1.refers
