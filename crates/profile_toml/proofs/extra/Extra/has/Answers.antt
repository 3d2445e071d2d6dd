use Rattle.std.proofs.Common.{is_some, ap, sym, ◌∙◌}
use Rattle.toml.specs.Data.{get_member}
use Rattle.toml.proofs.Views.{view-lookup}
use Rattle.profile_toml.proofs.Members.{viewed}
use Rattle.profile_toml.proofs.extra.Extra.has.Goals as goal

pub returns : goal.returns
returns c =
    let key = c.args.key.now in
    c.contains_key.ensures ∙ sym (viewed _) ∙ ap is_some (view-lookup key c.self.inside.table.entries)
    ∙ ap (λ ms. is_some (get_member key ms)) c.self.view_is
