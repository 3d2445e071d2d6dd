use Rattle.std.proofs.Common.{◌≡◌, map, sym, ap, subst, ◌∙◌}
use Rattle.profile_toml.specs.Kept.{Fits}
use Rattle.profile_toml.specs.Records.{AreAtTheirPaths}
use Rattle.sample_world.specs.Profiles.{sample_profile}
use Rattle.sample_world.specs.Texts.{mods_of}
use Rattle.sample_world.proofs.Listed.{overrides_at, overrides_are, fits_sample}
use Rattle.sample_world.proofs.profile.sample_profile.Goals as goal

pub invariant_of-result : goal.invariant_of-result
invariant_of-result c =
    let overrides = ap (map (λ e. e.1)) c.in_ok-overrides.ensures ∙ overrides_are c.args.number in
    let whole : record { version = 1; mods = c.in_ok-mods.mods.entries; overrides = map (λ e. e.1) c.in_ok-overrides.overrides.entries; types = c.new.result.items; extra = c.none.result } ≡ sample_profile c.args.number =
    λ i. record { version = 1; mods = c.in_ok-mods.ensures i; overrides = overrides i; types = c.new.ensures.items i; extra = c.none.ensures i } in
    (subst AreAtTheirPaths (sym c.in_ok-overrides.ensures) (overrides_at c.args.number (mods_of c.args.number)), subst Fits (sym whole) (fits_sample c.args.number))

pub returns : goal.returns
returns c =
    let overrides = ap (map (λ e. e.1)) c.in_ok-overrides.ensures ∙ overrides_are c.args.number in
    λ i. record { version = 1; mods = c.in_ok-mods.ensures i; overrides = overrides i; types = c.new.ensures.items i; extra = c.none.ensures i }
