use Rattle.std.proofs.Common.{◌≡◌, ◌++◌, ◌∷◌, [], None, nat_eq, ap, ◌∙◌}
use Rattle.std.specs.Cmp.Lexicographic.{pointwise}
use Rattle.std.specs.Map.{lookup}
use Rattle.indexmap.proofs.CallerLemmas.{insert_entry-new}
use Rattle.profile_toml.specs.Plain.{plain_override}
use Rattle.sample_world.specs.Profiles.{sample_override}
use Rattle.sample_world.proofs.profile.add_override.Goals as goal

pub returns-in-Ok : goal.returns-in-Ok
returns-in-Ok c =
    let old = c.args.overrides.now.entries in
    let fresh : lookup (pointwise nat_eq c.in_ok-path.path) old ≡ None = ap (λ k. lookup (pointwise nat_eq k) old) c.in_ok-path.ensures.same ∙ c.requires.fresh in
    let entry : c.plain-entry.result ≡ sample_override c.args.index = c.plain-entry.ensures ∙ λ i. plain_override ((c.in_ok-copy.ensures ∙ c.in_ok-path.ensures.same) i) (c.in_ok-id.ensures i) in
    c.in-Ok.ensures.entries ∙ insert_entry-new (pointwise nat_eq) c.args.overrides.now c.in_ok-path.path c.plain-entry.result fresh
    ∙ (λ i. old ++ (c.in_ok-path.ensures.same i, entry i) ∷ [])
