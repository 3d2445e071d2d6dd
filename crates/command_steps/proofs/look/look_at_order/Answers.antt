use Rattle.std.proofs.Common.{sym, subst, ◌∙◌, ap, map}
use Rattle.tree_fs.specs.Story.{disk_of}
use Rattle.mod_rules.specs.Nodes.{enabled_of}
use Rattle.command_steps.specs.Profiles.{HasProfile}
use Rattle.command_steps.proofs.Orders.{takes_err, stops_at, stops_later, and_then}
use Rattle.command_steps.proofs.Cycling.{order_has_ids}
use Rattle.command_steps.proofs.look.look_at_order.Goals as goal

pub returns-in_err-check_rules-clause-takes : goal.returns-in_err-check_rules-clause-takes
returns-in_err-check_rules-clause-takes g c = λ told.
    let first = (c.in_ok-profile.ensures.takes told).passed in
    let has = subst (λ s. HasProfile (disk_of s) c.in_ok-profile.profile) (sym (c.in_ok-profile.ensures.same told)) first.gives in
    takes_err _ _ c.from_residual-in_err-check_rules.ensures (stops_at _ (stops_later first (c.in_err-check_rules.ensures.takes c.args.limits.now _ has).stopped))

pub returns-in_err-ordered-clause-takes : goal.returns-in_err-ordered-clause-takes
returns-in_err-ordered-clause-takes g c = λ told.
    let first = (c.in_ok-profile.ensures.takes told).passed in
    let has = subst (λ s. HasProfile (disk_of s) c.in_ok-profile.profile) (sym (c.in_ok-profile.ensures.same told)) first.gives in
    let second = (c.in_ok-check_rules.ensures.takes c.args.limits.now _ has).passed in
    takes_err _ _ c.from_residual-in_err-ordered.ensures (stops_later (and_then first second) (c.in_err-ordered.ensures.takes c.args.limits.now _ has).stopped)

pub returns-clause-whole : goal.returns-clause-whole
returns-clause-whole g c =
    let ordered = c.in_ok-ordered.ensures.ordered in
    let ids = c.in_ok-ids.ensures.ids ∙ ap (λ l. map (λ m. m.0) (enabled_of l)) c.mods.ensures in
    record { ids = ids; differ = c.in_ok-ids.ensures.differ; graph = ordered.graph; order = ordered.order; has_ids = order_has_ids c.in_ok-profile.profile c.in_ok-ordered.ordered.graph c.in_ok-ids.ids.items c.in_ok-ordered.ordered.order.items ids ordered.graph ordered.order.lawful }

pub returns-clause-takes : goal.returns-clause-takes
returns-clause-takes g c = λ told.
    let first = (c.in_ok-profile.ensures.takes told).passed in
    let has = subst (λ s. HasProfile (disk_of s) c.in_ok-profile.profile) (sym (c.in_ok-profile.ensures.same told)) first.gives in
    let second = (c.in_ok-check_rules.ensures.takes c.args.limits.now _ has).passed in
    let third = (c.in_ok-ordered.ensures.takes c.args.limits.now _ has).passed in
    let all = and_then (and_then first second) third in
    let ordered = c.in_ok-ordered.ensures.ordered in
    let ids = c.in_ok-ids.ensures.ids ∙ ap (λ l. map (λ m. m.0) (enabled_of l)) c.mods.ensures in
    record {
      passed = record {
        all = all.all;
        story = all.story;
        gives = record {
          profile = first.gives;
          whole = record { ids = ids; differ = c.in_ok-ids.ensures.differ; graph = ordered.graph; order = ordered.order; has_ids = order_has_ids c.in_ok-profile.profile c.in_ok-ordered.ordered.graph c.in_ok-ids.ids.items c.in_ok-ordered.ordered.order.items ids ordered.graph ordered.order.lawful };
        };
      };
      stopped = tt;
    }

pub order_of-requires-clause-ids : goal.order_of-requires-clause-ids
order_of-requires-clause-ids g c = c.deref.ensures.value ∙ c.in_ok-ids.ensures.ids ∙ ap (λ l. map (λ m. m.0) (enabled_of l)) c.mods.ensures
