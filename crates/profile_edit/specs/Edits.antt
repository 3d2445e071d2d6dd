-- What a profile is after an edit, and why an edit is refused.
use Rattle.std.specs.Prelude.{◌≡◌, ◌≢◌, ℕ, ◌+◌, List, [], ◌∷◌, ◌++◌, Bool, true, false, not, ◌&&◌, nat_lt, nat_eq, Option, None, Some, is_none, is_some, length, Result, Ok, Err, MatchBool, if◌then◌else◌}
use Rattle.std.specs.Map.{remove_entry, values_of}
use Rattle.std.specs.Option.{option_map, option_map_or, option_or}
use Rattle.fault_count.specs.Causes.{Explains}
use Rattle.std.specs.Str.{bytes_eq}
use Rattle.rel_paths.specs.Names.{IsUserPath}
use Rattle.profile_toml.specs.declared.rule.RuleKind.{RuleKind}
use Rattle.profile_toml.specs.Records.{ProfileData, ModData, OverrideData}
use Rattle.profile_toml.specs.Plain.{plain_mod, plain_override}
use Rattle.profile_edit.specs.declared.edit.Edit.{Edit}
use Rattle.profile_edit.specs.declared.edit.Edit.TheVariants.{Enable, Disable, AddRule, DropRule, SetOverride, DropOverride, Upgrade, Release}
use Rattle.profile_edit.specs.declared.error.EditError.{EditError}
use Rattle.profile_edit.specs.declared.error.EditError.TheVariants.{TooMany, NoMod, SameRule, NoRule, NoOverride, KeyTaken, OldProfile, Memory}
use Rattle.profile_edit.specs.Parts.{value_at, with_value, by_path, has_rule, with_enabled, with_rule, without_rule, with_release, with_mod_id}
use Rattle.profile_edit.specs.Upgrades.{path_of, first_new_key}

-- ---- the value after an edit

-- the mod is enabled, and an unknown one is added, last
abbrev pub mods_enabled : List ℕ → List (List ℕ × ModData) → List (List ℕ × ModData)
mods_enabled id mods =
    if is_some (value_at id mods) then with_value id (with_enabled true) mods
    else mods ++ (id, plain_mod true) ∷ []

-- the override of the path is changed in its place, and a new one is added, last
abbrev pub overrides_set : List ℕ → List ℕ → List OverrideData → List OverrideData
overrides_set path id overrides =
    if is_some (value_at path (by_path overrides))
    then values_of (with_value path (with_mod_id id) (by_path overrides))
    else overrides ++ plain_override path id ∷ []

abbrev pub overrides_dropped : List ℕ → List OverrideData → List OverrideData
overrides_dropped path overrides = values_of (remove_entry (bytes_eq path) (by_path overrides))

abbrev pub edited : ProfileData → Edit → ProfileData
edited p (Enable id) = record p { mods = mods_enabled id p.mods }
edited p (Disable id) = record p { mods = with_value id (with_enabled false) p.mods }
edited p (AddRule id kind refers) = record p { mods = with_value id (with_rule kind refers) p.mods }
edited p (DropRule id kind refers) =
    record p { mods = with_value id (without_rule kind refers) p.mods }
edited p (SetOverride path id) = record p { overrides = overrides_set path id p.overrides }
edited p (DropOverride path) = record p { overrides = overrides_dropped path p.overrides }
edited p Upgrade = record p { version = 2 }
edited p (Release id release) = record p { mods = with_value id (with_release release) p.mods }

-- ---- why an edit is refused

abbrev pub fault_if : Bool → EditError → Option EditError
fault_if test e = if test then Some e else None

-- with one mod more there would be too many
abbrev pub enable_fault : ℕ → List ℕ → List (List ℕ × ModData) → Option EditError
enable_fault most id mods =
    fault_if (is_none (value_at id mods) && nat_lt most (length mods + 1))
    (TooMany (length mods + 1))

abbrev pub no_mod_fault : List ℕ → List (List ℕ × ModData) → Option EditError
no_mod_fault id mods = fault_if (is_none (value_at id mods)) (NoMod id)

-- the mod isn't there, or it has the rule already
abbrev pub add_fault : List ℕ → RuleKind → List ℕ → List (List ℕ × ModData) → Option EditError
add_fault id kind refers mods =
    option_map_or (λ m. fault_if (has_rule kind refers m) SameRule) (value_at id mods)
    (Some (NoMod id))

-- the mod isn't there, or it doesn't have the rule
abbrev pub drop_fault : List ℕ → RuleKind → List ℕ → List (List ℕ × ModData) → Option EditError
drop_fault id kind refers mods =
    option_map_or (λ m. fault_if (not (has_rule kind refers m)) NoRule) (value_at id mods)
    (Some (NoMod id))

abbrev pub no_override_fault : List ℕ → List OverrideData → Option EditError
no_override_fault path overrides =
    fault_if (is_none (value_at path (by_path overrides))) (NoOverride path)

-- a profile of version 1 has a key that version 2 has a meaning for: the first one
abbrev pub upgrade_fault : ProfileData → Option EditError
upgrade_fault p =
    if nat_eq p.version 1 then option_map (λ key. KeyTaken (path_of key)) (first_new_key p)
    else None

-- the profile has version 1, or the mod isn't there
abbrev pub release_fault : ℕ → List ℕ → List (List ℕ × ModData) → Option EditError
release_fault version id mods =
    option_or (fault_if (nat_eq version 1) OldProfile) (no_mod_fault id mods)

-- why an edit is refused, where the profile may have this many mods
abbrev pub edit_fault : ℕ → ProfileData → Edit → Option EditError
edit_fault most p (Enable id) = enable_fault most id p.mods
edit_fault most p (Disable id) = no_mod_fault id p.mods
edit_fault most p (AddRule id kind refers) = add_fault id kind refers p.mods
edit_fault most p (DropRule id kind refers) = drop_fault id kind refers p.mods
edit_fault most p (SetOverride path id) = no_mod_fault id p.mods
edit_fault most p (DropOverride path) = no_override_fault path p.overrides
edit_fault most p Upgrade = upgrade_fault p
edit_fault most p (Release id release) = release_fault p.version id p.mods

-- the path of an override to be set is a user path
abbrev pub HasUserPath : Edit → Type 0
HasUserPath (SetOverride path id) = IsUserPath path
HasUserPath _ = Unit {0}

-- what an edit of a part leaves: the edited part, and whether that differs, or the old part and the
-- reason
abbrev pub Applies : {X : Type 0} → Option EditError → X → X → X → Result Bool EditError → Type 0
Applies fault old changed new (Ok differs) =
    (fault ≡ None) × (new ≡ changed) × MatchBool differs (new ≢ old) (new ≡ old)
Applies fault old changed new (Err e) = Explains Memory fault e × (new ≡ old)
