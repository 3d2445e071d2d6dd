use Rattle.std.proofs.Common.{◌∙◌, length, sym, ap, subst, refl}
use Rattle.tree_fs.specs.Story.{disk_of}
use Rattle.winner_table.specs.Winners.{HasEachOnce, AreWinners}
use Rattle.command_steps.specs.Profiles.{HasProfile, enabled_ids, bases_of}
use Rattle.command_steps.specs.Scans.{AreScans, placed_scans}
use Rattle.command_steps.proofs.Orders.{takes_err, stops_at, stops_later, and_then}
use Rattle.command_steps.proofs.Looking.{graph_count, placed_ids, each_once}
use Rattle.command_steps.proofs.look.look_at_winners.Goals as goal

pub returns-in_err-look-clause-takes : goal.returns-in_err-look-clause-takes
returns-in_err-look-clause-takes g c = λ told. takes_err _ _ c.from_residual.ensures (stops_at _ (c.in_err-look.ensures.takes told).stopped)

pub returns-in_err-scans-clause-takes : goal.returns-in_err-scans-clause-takes
returns-in_err-scans-clause-takes g c = λ told.
    let look = c.in_ok-look.look in
    let first = (c.in_ok-look.ensures.takes told).passed in
    let has = subst (λ s. HasProfile (disk_of s) look.profile) (sym (c.in_ok-look.ensures.same told)) first.gives.profile in
    let ids = c.deref.ensures.value ∙ c.in_ok-look.ensures.whole.ids in
    takes_err _ _ c.from_residual-in_err-scans.ensures (stops_at _ (stops_later first (c.in_err-scans.ensures.takes told look.profile has ids).stopped))

pub returns-in_err-placed-clause-takes : goal.returns-in_err-placed-clause-takes
returns-in_err-placed-clause-takes g c = λ told.
    let look = c.in_ok-look.look in
    let first = (c.in_ok-look.ensures.takes told).passed in
    let has = subst (λ s. HasProfile (disk_of s) look.profile) (sym (c.in_ok-look.ensures.same told)) first.gives.profile in
    let ids = c.deref.ensures.value ∙ c.in_ok-look.ensures.whole.ids in
    let second = (c.in_ok-scans.ensures.takes told look.profile has ids).passed in
    let stays = sym (c.in_ok-scans.ensures.same told) in
    let still = subst (λ s. HasProfile (disk_of s) look.profile) stays has in
    let are = subst (λ s. AreScans (disk_of s) (enabled_ids look.profile) c.deref-2.result.now) stays
    (subst (λ l. AreScans (disk_of (g.T.Tree.story c.look_at_order.new.tree)) l c.deref-2.result.now) ids (subst (AreScans (disk_of (g.T.Tree.story c.look_at_order.new.tree)) c.deref.result.now) (sym c.deref-2.ensures.value) second.gives)) in
    takes_err _ _ c.from_residual-in_err-placed.ensures (stops_at _ (stops_later (and_then first second) (c.in_err-placed.ensures.takes c.args.limits.now _ still are).stopped))

pub winners_of-requires : goal.winners_of-requires
winners_of-requires g c =
    let look = c.in_ok-look.look in
    let whole = c.in_ok-look.ensures.whole in
    let scanned = c.in_ok-scans.ensures.ids ∙ c.deref.ensures.value in
    subst (λ l. HasEachOnce (length l) c.deref-3.result.now) (sym c.deref-4.ensures.value) (subst (HasEachOnce (length c.in_ok-placed.placed.scans.items)) (sym c.deref-3.ensures.value)
    (each_once look.profile look.ids.items c.in_ok-scans.scans.items whole.ids scanned c.in_ok-placed.placed.scans.items (c.in_ok-placed.ensures.placed ∙ ap (placed_scans (bases_of look.profile)) c.deref-2.ensures.value) look.graph whole.graph look.order.items whole.order.lawful))

pub returns-in_err-wins-clause-takes : goal.returns-in_err-wins-clause-takes
returns-in_err-wins-clause-takes g c = λ told.
    let look = c.in_ok-look.look in
    let whole = c.in_ok-look.ensures.whole in
    let first = (c.in_ok-look.ensures.takes told).passed in
    let has = subst (λ s. HasProfile (disk_of s) look.profile) (sym (c.in_ok-look.ensures.same told)) first.gives.profile in
    let ids = c.deref.ensures.value ∙ whole.ids in
    let second = (c.in_ok-scans.ensures.takes told look.profile has ids).passed in
    let stays = sym (c.in_ok-scans.ensures.same told) in
    let still = subst (λ s. HasProfile (disk_of s) look.profile) stays has in
    let are = subst (λ s. AreScans (disk_of s) (enabled_ids look.profile) c.deref-2.result.now) stays
    (subst (λ l. AreScans (disk_of (g.T.Tree.story c.look_at_order.new.tree)) l c.deref-2.result.now) ids (subst (AreScans (disk_of (g.T.Tree.story c.look_at_order.new.tree)) c.deref.result.now) (sym c.deref-2.ensures.value) second.gives)) in
    let third = (c.in_ok-placed.ensures.takes c.args.limits.now _ still are).passed in
    takes_err _ _ c.from_residual-in_err-wins.ensures
    (stops_later (and_then (and_then first second) third)
    (c.in_err-wins.ensures.takes c.args.limits.now _ (record { profile = look.profile; graph = look.graph; order = look.order.items; scans = c.deref-2.result.now }) (record { profile = still; graph = whole.graph; order = whole.order; scans = are }) refl c.deref-3.ensures.value
    (c.deref-4.ensures.value ∙ c.in_ok-placed.ensures.placed)).stopped)

pub returns-clause-whole : goal.returns-clause-whole
returns-clause-whole g c =
    let look = c.in_ok-look.look in
    let whole = c.in_ok-look.ensures.whole in
    let scanned = c.in_ok-scans.ensures.ids ∙ c.deref.ensures.value in
    let placed = c.in_ok-placed.ensures.placed ∙ ap (placed_scans (bases_of look.profile)) c.deref-2.ensures.value in
    let scans = c.in_ok-placed.placed.scans.items in
    record {
      ids = whole.ids;
      differ = whole.differ;
      graph = whole.graph;
      order = whole.order;
      has_ids = whole.has_ids;
      count = graph_count look.profile look.ids.items c.in_ok-scans.scans.items whole.ids scanned scans placed look.graph whole.graph;
      same_ids = placed_ids look.profile look.ids.items c.in_ok-scans.scans.items whole.ids scanned scans placed;
      nodes = each_once look.profile look.ids.items c.in_ok-scans.scans.items whole.ids scanned scans placed look.graph whole.graph look.order.items whole.order.lawful;
      belong = c.in_ok-placed.ensures.belong;
      winners = subst (λ z. AreWinners z look.order.items look.profile.overrides c.in_ok-wins.wins.items) c.deref-4.ensures.value (subst (λ o. AreWinners c.deref-4.result.now o look.profile.overrides c.in_ok-wins.wins.items) c.deref-3.ensures.value c.in_ok-wins.ensures.won);
      free = c.in_ok-wins.ensures.free;
      apart = c.in_ok-wins.ensures.apart;
    }

pub returns-clause-takes : goal.returns-clause-takes
returns-clause-takes g c = λ told.
    let look = c.in_ok-look.look in
    let whole = c.in_ok-look.ensures.whole in
    let first = (c.in_ok-look.ensures.takes told).passed in
    let has = subst (λ s. HasProfile (disk_of s) look.profile) (sym (c.in_ok-look.ensures.same told)) first.gives.profile in
    let ids = c.deref.ensures.value ∙ whole.ids in
    let second = (c.in_ok-scans.ensures.takes told look.profile has ids).passed in
    let stays = sym (c.in_ok-scans.ensures.same told) in
    let still = subst (λ s. HasProfile (disk_of s) look.profile) stays has in
    let scanned = subst (λ l. AreScans (disk_of (g.T.Tree.story c.look_at_order.new.tree)) l c.deref-2.result.now) ids (subst (AreScans (disk_of (g.T.Tree.story c.look_at_order.new.tree)) c.deref.result.now) (sym c.deref-2.ensures.value) second.gives) in
    let are = subst (λ s. AreScans (disk_of s) (enabled_ids look.profile) c.deref-2.result.now) stays scanned in
    let third = (c.in_ok-placed.ensures.takes c.args.limits.now _ still are).passed in
    let fourth =
    (c.in_ok-wins.ensures.takes c.args.limits.now _ (record { profile = look.profile; graph = look.graph; order = look.order.items; scans = c.deref-2.result.now }) (record { profile = still; graph = whole.graph; order = whole.order; scans = are }) refl c.deref-3.ensures.value
    (c.deref-4.ensures.value ∙ c.in_ok-placed.ensures.placed)).passed in
    let all = and_then (and_then (and_then first second) third) fourth in
    record {
      passed = record {
        all = all.all;
        story = all.story;
        gives = record {
          look = record { profile = look.profile; graph = look.graph; order = look.order.items; scans = c.deref-2.result.now };
          is = record {
            profile = first.gives.profile;
            graph = whole.graph;
            order = whole.order;
            scans = subst (λ s. AreScans (disk_of s) (enabled_ids look.profile) c.deref-2.result.now) (c.in_ok-look.ensures.same told) scanned;
          };
          profile = refl;
          graph = refl;
          order = refl;
          scans = c.in_ok-placed.ensures.placed;
          sources = c.in_ok-placed.ensures.sources;
          wins = fourth.gives;
        };
      };
      stopped = tt;
    }
