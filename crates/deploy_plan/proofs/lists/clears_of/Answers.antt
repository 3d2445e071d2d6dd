use Rattle.std.proofs.Common.{◌≡◌, subst, map, filter_map, IfOk}
use Rattle.tree_fs.specs.Spot.{spot_of}
use Rattle.tree_fs.specs.Places.{game_spot}
use Rattle.plan_lists.specs.Order.{HasSameSpots}
use Rattle.deploy_plan.specs.Told.{case_seen, told_clear}
use Rattle.plan_lists.proofs.Ordered.{rise_answer, same_answer, same_spots}
use Rattle.deploy_plan.proofs.lists.clears_of.Goals as goal

pub returns-clause-order : goal.returns-clause-order
returns-clause-order c =
    rise_answer c.game_places.result c.in_ok-paths.paths.items
    (subst (λ l. IfOk c.game_places.result (λ places. map spot_of places.items ≡ map game_spot l)) c.deref.ensures.value c.game_places.ensures) c.in_ok-paths.ensures.rise

pub returns-clause-same : goal.returns-clause-same
returns-clause-same c =
    let paths = c.in_ok-cleared_paths.field-0.items in
    same_answer c.game_places.result c.in_ok-paths.paths.items (filter_map told_clear (map case_seen c.args.cases.now))
    (subst (λ l. IfOk c.game_places.result (λ places. map spot_of places.items ≡ map game_spot l)) c.deref.ensures.value c.game_places.ensures)
    (subst (HasSameSpots (map game_spot c.in_ok-paths.paths.items)) c.in_ok-cleared_paths.ensures (same_spots paths c.in_ok-paths.paths.items c.in_ok-paths.ensures.same))
