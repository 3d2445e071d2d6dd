use Rattle.std.proofs.Common.{ℕ, List, false, map}
use Rattle.profile_toml.specs.Records.{ProfileData, type_ids}
use Rattle.profile_edit.specs.Parts.{with_value, with_enabled, with_rule, without_rule}
use Rattle.profile_edit.specs.Edits.{mods_enabled, enable_fault, no_mod_fault, add_fault, drop_fault}
use Rattle.profile_edit.proofs.Fitting.{fits_all_enabled, fits_enabled, fits_rule, fits_no_rule, kept_mods, kept_release}
use Rattle.profile_edit.proofs.dispatch.apply_to.Goals as goal

pub invariant_of-profile : goal.invariant_of-profile
invariant_of-profile c =
    let i = c.profile.inside in
    let kept = c.profile.invariant in
    let p : ProfileData = record { version = i.version; mods = i.mods.entries; overrides = map (λ e. e.1) i.overrides.entries; types = i.types.items; extra = i.extra } in
    (kept.0, kept_mods p (enable_fault c.args.most_mods c.in-Enable.id i.mods.entries) (mods_enabled c.in-Enable.id i.mods.entries) c.enable.new.mods.entries c.enable.result c.enable.ensures kept.1 (fits_all_enabled i.version (type_ids i.types.items) c.in-Enable.id i.mods.entries kept.1.mods))

pub invariant_of-profile-in-Disable : goal.invariant_of-profile-in-Disable
invariant_of-profile-in-Disable c =
    let i = c.profile-in-Disable.inside in
    let kept = c.profile-in-Disable.invariant in
    let p : ProfileData = record { version = i.version; mods = i.mods.entries; overrides = map (λ e. e.1) i.overrides.entries; types = i.types.items; extra = i.extra } in
    (kept.0, kept_mods p (no_mod_fault c.in-Disable.id i.mods.entries) (with_value c.in-Disable.id (with_enabled false) i.mods.entries) c.disable.new.mods.entries c.disable.result c.disable.ensures kept.1 (fits_enabled i.version (type_ids i.types.items) false c.in-Disable.id i.mods.entries kept.1.mods))

pub invariant_of-profile-in-AddRule : goal.invariant_of-profile-in-AddRule
invariant_of-profile-in-AddRule c =
    let i = c.profile-in-AddRule.inside in
    let kept = c.profile-in-AddRule.invariant in
    let p : ProfileData = record { version = i.version; mods = i.mods.entries; overrides = map (λ e. e.1) i.overrides.entries; types = i.types.items; extra = i.extra } in
    (kept.0, kept_mods p (add_fault c.in-AddRule.mod_id c.in-AddRule.kind c.in-AddRule.refers i.mods.entries) (with_value c.in-AddRule.mod_id (with_rule c.in-AddRule.kind c.in-AddRule.refers) i.mods.entries) c.add_rule.new.mods.entries c.add_rule.result c.add_rule.ensures kept.1 (fits_rule i.version (type_ids i.types.items) c.in-AddRule.kind c.in-AddRule.refers c.in-AddRule.mod_id i.mods.entries kept.1.mods))

pub invariant_of-profile-in-DropRule : goal.invariant_of-profile-in-DropRule
invariant_of-profile-in-DropRule c =
    let i = c.profile-in-DropRule.inside in
    let kept = c.profile-in-DropRule.invariant in
    let p : ProfileData = record { version = i.version; mods = i.mods.entries; overrides = map (λ e. e.1) i.overrides.entries; types = i.types.items; extra = i.extra } in
    (kept.0, kept_mods p (drop_fault c.in-DropRule.mod_id c.in-DropRule.kind c.in-DropRule.refers i.mods.entries) (with_value c.in-DropRule.mod_id (without_rule c.in-DropRule.kind c.in-DropRule.refers) i.mods.entries) c.drop_rule.new.mods.entries c.drop_rule.result c.drop_rule.ensures kept.1 (fits_no_rule i.version (type_ids i.types.items) c.in-DropRule.kind c.in-DropRule.refers c.in-DropRule.mod_id i.mods.entries kept.1.mods))

pub invariant_of-profile-in-Release : goal.invariant_of-profile-in-Release
invariant_of-profile-in-Release c =
    let i = c.profile-in-Release.inside in
    let kept = c.profile-in-Release.invariant in
    let p : ProfileData = record { version = i.version; mods = i.mods.entries; overrides = map (λ e. e.1) i.overrides.entries; types = i.types.items; extra = i.extra } in
    (kept.0, kept_release p c.in-Release.mod_id c.in-Release.release c.release_mod.new.mods.entries c.release_mod.result c.release_mod.ensures kept.1)
