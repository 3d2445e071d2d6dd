-- The enabled mods of a profile, and which of them a rule matches.
use Rattle.std.specs.Prelude.{ℕ, List, Bool, false, ◌&&◌, filter}
use Rattle.std.specs.Map.{lookup}
use Rattle.std.specs.Option.{option_map_or}
use Rattle.std.specs.Str.{bytes_eq}
use Rattle.profile_toml.specs.Records.{ProfileData, ModData, RuleData}
use Rattle.profile_toml.specs.Releases.{admits}

-- the enabled ones of these mods, each with its id
abbrev pub enabled_of : List (List ℕ × ModData) → List (List ℕ × ModData)
enabled_of mods = filter (λ m. m.1.enabled) mods

-- the enabled mods in the profile's order: node k is the k-th
abbrev pub nodes_of : ProfileData → List (List ℕ × ModData)
nodes_of profile = enabled_of profile.mods

-- whether the mod is enabled and, if the rule has a range, has a release that the range matches
abbrev pub is_met_by : RuleData → ModData → Bool
is_met_by r m = m.enabled && admits r.range m.release

-- whether the rule matches among these mods: the one that it refers to is there, and meets it
abbrev pub is_matching : List (List ℕ × ModData) → RuleData → Bool
is_matching mods r = option_map_or (is_met_by r) (lookup (bytes_eq r.refers) mods) false
