use Rattle.std.proofs.Common.{◌≡◌, ◌++◌, ◌∷◌, ◌*◌, [], true, false, nat_eq, sym, ap, ◌∙◌}
use Rattle.std.specs.Cmp.Lexicographic.{pointwise}
use Rattle.std.specs.Map.{lookup}
use Rattle.std.proofs.lemmas.Result.{on_ok_weaker}
use Rattle.sample_world.specs.Profiles.{has_override, sample_override}
use Rattle.sample_world.specs.Texts.{file_path}
use Rattle.sample_world.proofs.Listed.{new_override, override_more, override_same}
use Rattle.sample_world.proofs.profile.add_override_if_there.Goals as goal

pub add_override-requires-clause-fresh : goal.add_override-requires-clause-fresh
add_override-requires-clause-fresh c =
    ap (lookup (pointwise nat_eq (file_path (50 * c.args.index)))) c.requires.so_far ∙ new_override c.args.number c.args.index c.requires.few

pub returns-then-has_override : goal.returns-then-has_override
returns-then-has_override c =
    let there : has_override c.args.number c.args.index ≡ true = sym c.has_override.ensures ∙ c.if-has_override.true in
    on_ok_weaker c.add_override.result
    (λ added. added ∙ ap (λ l. l ++ (file_path (50 * c.args.index), sample_override c.args.index) ∷ []) c.requires.so_far ∙ sym (override_more c.args.number c.args.index there))
    c.add_override.ensures

pub returns-else-has_override : goal.returns-else-has_override
returns-else-has_override c =
    let none : has_override c.args.number c.args.index ≡ false = sym c.has_override.ensures ∙ c.if-has_override.false in
    c.requires.so_far ∙ sym (override_same c.args.number c.args.index none)
