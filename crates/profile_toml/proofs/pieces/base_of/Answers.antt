use Rattle.std.proofs.Common.{sym, ◌∙◌}
use Rattle.rel_paths.specs.Names.{is_base}
use Rattle.profile_toml.specs.Texts.{is_user_path}
use Rattle.profile_toml.proofs.Texts.{no_base, none_if, if_false}
use Rattle.profile_toml.proofs.pieces.base_of.Goals as goal

pub returns-in_default-clause-same : goal.returns-in_default-clause-same
returns-in_default-clause-same c =
    let text = c.args.text.now in
    if_false (is_base text) text (no_base text (none_if (is_user_path text) text (sym c.in_default.is ∙ c.in_ok-path.ensures.same)))
