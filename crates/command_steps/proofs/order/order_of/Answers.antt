use Rattle.std.proofs.Common.{ℕ, List, ◌∙◌, subst, sym}
use Rattle.load_order.specs.Cycles.{IsFound, IsClosedWalk, IfCycle}
use Rattle.load_order.specs.Orders.{IsLawful}
use Rattle.command_steps.proofs.Cycling.{cycle_has_ids, count_of_ids, order_why}
use Rattle.command_steps.proofs.order.order_of.Goals as goal

pub cycle_stop-requires : goal.cycle_stop-requires
cycle_stop-requires c =
    cycle_has_ids c.in_ok-graph.graph c.edges_of.ensures.within c.args.ids.now c.deref.result.now (c.in_ok-graph.ensures.count ∙ sym (count_of_ids c.args.profile.now c.args.ids.now c.requires.ids))
    (subst (IsClosedWalk c.in_ok-graph.graph) (sym c.deref.ensures.value) (subst (λ e. IfCycle e (IsClosedWalk c.in_ok-graph.graph)) c.in-Err-Cycle.field-0-is c.in-Err-Cycle.ensures.closed))

pub returns-in-Err-Cycle-clause-takes : goal.returns-in-Err-Cycle-clause-takes
returns-in-Err-Cycle-clause-takes c = λ limits s has. record {
  passed = tt;
  stopped = order_why limits s c.args.profile.now has c.in_ok-graph.graph (record { count = c.in_ok-graph.ensures.count; ascending = c.edges_of.ensures.ascending; edges = c.in_ok-graph.ensures.edges }) c.args.ids.now c.deref.result.now _ c.requires.ids
      (subst (λ e. IfCycle e (λ _. (list : List ℕ) → IsLawful c.in_ok-graph.graph list → ⊥)) c.in-Err-Cycle.field-0-is c.in-Err-Cycle.ensures.none_lawful)
      (subst (IsFound c.in_ok-graph.graph) (sym c.deref.ensures.value) (subst (λ e. IfCycle e (IsFound c.in_ok-graph.graph)) c.in-Err-Cycle.field-0-is c.in-Err-Cycle.ensures.found)) c.cycle_stop.ensures;
}
