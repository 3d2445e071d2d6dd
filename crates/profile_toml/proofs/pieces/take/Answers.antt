use Rattle.std.proofs.Common.{ap, sym, ◌∙◌, option_map}
use Rattle.std.specs.Map.{lookup}
use Rattle.toml.specs.Data.{get_member}
use Rattle.toml.specs.View.{view, members_view}
use Rattle.toml.proofs.Views.{view-lookup, Entry}
use Rattle.profile_toml.proofs.Members.{get-without}
use Rattle.profile_toml.proofs.Tables.{at_key, members_view-remove}
use Rattle.profile_toml.proofs.pieces.take.Goals as goal

pub returns-clause-value : goal.returns-clause-value
returns-clause-value c = ap (option_map view) c.remove.ensures.value ∙ view-lookup c.args.key.now c.args.table.now.entries

pub returns-clause-left : goal.returns-clause-left
returns-clause-left c =
    let key = c.args.key.now in
    ap members_view c.remove.ensures.entries ∙ members_view-remove key c.args.table.now.entries (ap (lookup (at_key key)) (sym c.remove.ensures.entries) ∙ c.remove.ensures.updates.1)

pub returns-clause-others : goal.returns-clause-others
returns-clause-others c =
    let key = c.args.key.now in
    let left = ap members_view c.remove.ensures.entries ∙ members_view-remove key c.args.table.now.entries (ap (lookup (at_key key)) (sym c.remove.ensures.entries) ∙ c.remove.ensures.updates.1) in
    λ k h. ap (get_member k) left ∙ get-without key k (members_view c.args.table.now.entries) h
