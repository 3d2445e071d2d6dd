use Rattle.std.proofs.Common.{◌≡◌, None, map, ap, sym, ◌∙◌}
use Rattle.profile_toml.specs.Records.{ProfileData}
use Rattle.profile_edit.specs.Upgrades.{first_new_key}
use Rattle.profile_edit.proofs.Upgraded.{upgraded}
use Rattle.profile_edit.proofs.upgrade.upgrade.Goals as goal

pub invariant_of-profile : goal.invariant_of-profile
invariant_of-profile c =
    let i = c.profile.inside in
    let p : ProfileData = record { version = i.version; mods = i.mods.entries; overrides = map (λ e. e.1) i.overrides.entries; types = i.types.items; extra = i.extra } in
    let one : p.version ≡ 1 = ap (λ x. x.version) c.profile.view_is ∙ sym c.version.ensures.same ∙ c.if-version-ne1.false in
    let none : first_new_key p ≡ None = ap first_new_key c.profile.view_is ∙ sym c.first_new_key.ensures ∙ c.in_default.is in
    (c.profile.invariant.0, upgraded p c.profile.invariant.1 one none)
