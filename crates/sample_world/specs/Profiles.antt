-- The profile of the sample.
use Rattle.std.specs.Prelude.{ℕ, ◌-◌, ◌*◌, ◌%◌, ◌==◌, ◌&&◌, nat_le, Bool, true, List, [], ◌∷◌, map, filter, if◌then◌else◌}
use Rattle.std.specs.List.{range_with_len}
use Rattle.profile_toml.specs.declared.rule.RuleKind.TheVariants.{Before}
use Rattle.profile_toml.specs.Plain.{plain_rule, plain_mod, plain_override, plain_profile}
use Rattle.profile_toml.specs.Records.{RuleData, ModData, OverrideData, ProfileData}
use Rattle.sample_world.specs.Texts.{mods_of, mod_id, file_path}

-- whether mod i is to load before the one that stands before it in the profile
abbrev pub has_rule : ℕ → ℕ → Bool
has_rule number i = nat_le 1 i && i % 10 == number % 10

abbrev pub sample_rules : ℕ → ℕ → List RuleData
sample_rules number i = if has_rule number i then plain_rule Before (mod_id (i - 1)) ∷ [] else []

abbrev pub sample_mod : ℕ → ℕ → ModData
sample_mod number i = record (plain_mod true) { rules = sample_rules number i }

-- whether there is an override to mod i: that of its first file
abbrev pub has_override : ℕ → ℕ → Bool
has_override number i = nat_le 1 i && i % 20 == number % 20

abbrev pub sample_override : ℕ → OverrideData
sample_override i = plain_override (file_path (50 * i)) (mod_id i)

-- all mods, enabled, in the order of their numbers, and the overrides in the order of their mods
abbrev pub sample_profile : ℕ → ProfileData
sample_profile number = record plain_profile {
  mods = map (λ i. (mod_id i, sample_mod number i)) (range_with_len 0 (mods_of number));
  overrides =
      map sample_override (filter (has_override number) (range_with_len 0 (mods_of number)));
}
