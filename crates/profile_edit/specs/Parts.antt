-- The parts of a profile that edits look up and change.
use Rattle.std.specs.Prelude.{ℕ, List, [], ◌∷◌, ◌++◌, Bool, true, false, ◌&&◌, Option, Some, map, remove, position, is_some}
use Rattle.std.specs.List.{position_or_len}
use Rattle.std.specs.Map.{lookup, set_value}
use Rattle.std.specs.Option.{option_map_or}
use Rattle.std.specs.Str.{bytes_eq}
use Rattle.profile_toml.specs.declared.rule.RuleKind.{RuleKind}
use Rattle.profile_toml.specs.declared.rule.RuleKind.TheVariants.{Before, After, Requires, Conflicts, Recommends}
use Rattle.profile_toml.specs.Plain.{plain_rule}
use Rattle.profile_toml.specs.Records.{ModData, RuleData, OverrideData}

-- the value at a key
abbrev pub value_at : {X : Type 0} → List ℕ → List (List ℕ × X) → Option X
value_at key entries = lookup (bytes_eq key) entries

-- the entries, with f of it in the place of the value at a key, which may be missing
abbrev pub with_value : {X : Type 0} → List ℕ → (X → X) → List (List ℕ × X) → List (List ℕ × X)
with_value key f entries =
    option_map_or (λ x. set_value (bytes_eq key) entries (f x)) (lookup (bytes_eq key) entries) entries

-- the overrides, each with its path
abbrev pub by_path : List OverrideData → List (List ℕ × OverrideData)
by_path overrides = map (λ o. (o.path, o)) overrides

abbrev pub same_kind : RuleKind → RuleKind → Bool
same_kind Before Before = true
same_kind After After = true
same_kind Requires Requires = true
same_kind Conflicts Conflicts = true
same_kind Recommends Recommends = true
same_kind _ _ = false

-- whether the rule is of this kind and refers to this mod
abbrev pub is_rule : RuleKind → List ℕ → RuleData → Bool
is_rule kind refers r = same_kind r.kind kind && bytes_eq r.refers refers

-- whether the mod has such a rule
abbrev pub has_rule : RuleKind → List ℕ → ModData → Bool
has_rule kind refers m = is_some (position (is_rule kind refers) m.rules)

-- the mod, enabled or disabled
abbrev pub with_enabled : Bool → ModData → ModData
with_enabled enabled m = record m { enabled = enabled }

-- the mod with one more rule, which is last
abbrev pub with_rule : RuleKind → List ℕ → ModData → ModData
with_rule kind refers m = record m { rules = m.rules ++ plain_rule kind refers ∷ [] }

-- the mod without the first such rule
abbrev pub without_rule : RuleKind → List ℕ → ModData → ModData
without_rule kind refers m =
    record m { rules = remove m.rules (position_or_len (is_rule kind refers) m.rules) }

-- the mod, of this release
abbrev pub with_release : List ℕ → ModData → ModData
with_release release m = record m { release = Some release }

-- the override, to this mod
abbrev pub with_mod_id : List ℕ → OverrideData → OverrideData
with_mod_id id o = record o { mod_id = id }
