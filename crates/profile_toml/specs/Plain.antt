-- Values of version 1 with empty lists, no unknown keys, and none of what may be missing.
use Rattle.std.specs.Prelude.{ℕ, List, [], Bool, true, None, map}
use Rattle.toml.specs.Data.{no_members}
use Rattle.profile_toml.specs.declared.rule.RuleKind.{RuleKind}
use Rattle.profile_toml.specs.Records.{RuleData, ModData, OverrideData, ProfileData}

abbrev pub plain_rule : RuleKind → List ℕ → RuleData
plain_rule kind refers = record { kind = kind; refers = refers; range = None; extra = no_members }

abbrev pub plain_mod : Bool → ModData
plain_mod enabled =
    record { enabled = enabled; rules = []; release = None; mod_type = None; extra = no_members }

abbrev pub plain_override : List ℕ → List ℕ → OverrideData
plain_override path mod_id = record { path = path; mod_id = mod_id; extra = no_members }

abbrev pub plain_profile : ProfileData
plain_profile = record { version = 1; mods = []; overrides = []; types = []; extra = no_members }

-- the profile of these mods in this order, all enabled
abbrev pub default_value : List (List ℕ) → ProfileData
default_value ids = record plain_profile { mods = map (λ id. (id, plain_mod true)) ids }
