use Rattle.std.proofs.Common.{sym, subst, map, filter_map}
use Rattle.tree_fs.specs.declared.place.Place.{Place}
use Rattle.plan_model.specs.Lists.{ends_of}
use Rattle.move_plan.specs.Rising.{AreRising}
use Rattle.deploy_plan.specs.Order.{HasSameEnds, PathsRise}
use Rattle.deploy_plan.specs.Told.{case_seen, told_path, told_save}
use Rattle.deploy_plan.proofs.Saving.{saves_rise, saves_same, map_map}
use Rattle.deploy_plan.proofs.lists.saves_of.Goals as goal

pub returns-clause-order : goal.returns-clause-order
returns-clause-order c rise =
    let ts = map case_seen c.args.cases.now in
    subst (λ l. AreRising (map (λ (s : Place × Place). s.1) l)) (sym c.turned_all.ensures)
    (saves_rise ts c.in_ok-saves.saves.items c.sort.new.self.items c.in_ok-saves.ensures c.in_ok-sort.ensures.permutation (subst PathsRise (sym (map_map told_path case_seen c.args.cases.now)) rise) c.in_ok-sort.ensures.sorted)

pub returns-clause-same : goal.returns-clause-same
returns-clause-same c =
    let ts = map case_seen c.args.cases.now in
    subst (λ l. HasSameEnds (map ends_of l) (filter_map told_save ts)) (sym c.turned_all.ensures)
    (saves_same ts c.in_ok-saves.saves.items c.sort.new.self.items c.in_ok-saves.ensures c.in_ok-sort.ensures.permutation)
