use Rattle.std.proofs.Common.{◌≡◌, ◌++◌, ◌∷◌, [], None, nat_eq, ap, ◌∙◌}
use Rattle.std.specs.Cmp.Lexicographic.{pointwise}
use Rattle.std.specs.Map.{lookup}
use Rattle.indexmap.proofs.CallerLemmas.{insert_entry-new}
use Rattle.sample_world.proofs.profile.add_mod.Goals as goal

pub returns-in-Ok : goal.returns-in-Ok
returns-in-Ok c =
    let fresh : lookup (pointwise nat_eq c.in_ok-id.id) c.args.mods.now.entries ≡ None = ap (λ k. lookup (pointwise nat_eq k) c.args.mods.now.entries) c.in_ok-id.ensures ∙ c.requires in
    c.in-Ok.ensures.entries ∙ insert_entry-new (pointwise nat_eq) c.args.mods.now c.in_ok-id.id c.in_ok-entry.entry fresh
    ∙ (λ i. c.args.mods.now.entries ++ (c.in_ok-id.ensures i, c.in_ok-entry.ensures i) ∷ [])
