use Rattle.std.proofs.Common.{ap, ◌∙◌}
use Rattle.toml.specs.View.{view, members_view}
use Rattle.profile_toml.specs.Documents.{put_member}
use Rattle.profile_toml.proofs.Puts.{members_view-insert}
use Rattle.profile_toml.proofs.print.put.Goals as goal

pub returns-in-Ok : goal.returns-in-Ok
returns-in-Ok c =
    ap members_view c.in-Ok.ensures.entries
    ∙ members_view-insert c.in_ok-key.key c.args.value c.args.table.now.entries
    ∙ ap (λ k. put_member k (view c.args.value) (members_view c.args.table.now.entries)) c.in_ok-key.ensures.ok
