use Rattle.std.proofs.Common.{◌<◌, ◌≤◌, ◌≡◌, ◌^◌, [], ℕ, Contains, length, get_or, sym, ap, subst, ◌∙◌}
use Rattle.mod_rules.specs.Edges.{AreWithin}
use Rattle.load_order.specs.Walks.{IsEarliestWaiting, IsLasso, IsTurned}
use Rattle.load_order.proofs.Orders.{lawful, no_later}
use Rattle.load_order.proofs.Cycles.{Stopped, told}
use Rattle.load_order.proofs.OneCycle.{taken_alone, found_alone}
use Rattle.load_order.proofs.placing.order.Goals as goal

pub earliest_waiting-requires : goal.earliest_waiting-requires
earliest_waiting-requires c = subst (λ w. length w < 2 ^ 32) (sym c.as_slice.ensures.value) c.in_ok-placed.ensures.bound

pub returns-in_default-clause-lawful : goal.returns-in_default-clause-lawful
returns-in_default-clause-lawful c =
    let none = subst (λ w. (node : ℕ) → get_or w node 0 ≡ 0) c.as_slice.ensures.value c.in_default.ensures.none in
    lawful c.args.graph.now c.in_ok-placed.placed.items c.in_ok-placed.ensures.taken.each (λ node l. (c.in_ok-placed.ensures.waits node l).1 (none node))

pub returns-in_default-clause-alone : goal.returns-in_default-clause-alone
returns-in_default-clause-alone c = λ other h. taken_alone c.args.graph.now c.in_ok-placed.placed.items other c.in_ok-placed.ensures.taken h

pub returns-in_default-clause-least : goal.returns-in_default-clause-least
returns-in_default-clause-least c = λ other h. no_later c.args.graph.now [] c.in_ok-placed.placed.items other c.in_ok-placed.ensures.taken.each h

pub returns : goal.returns
returns c =
    let g = c.args.graph.now in
    let placed = c.in_ok-placed.placed.items in
    let waits = c.in_ok-placed.waits.items in
    let before = c.in_ok-before.before.items in
    let path = c.in_ok-path.path.items in
    let again = c.in_ok-path.again in
    let cycle = c.in_ok-cycle.cycle.items in
    let within : AreWithin g.count g.edges = subst (λ v. AreWithin v.count v.edges) c.graph.view_is c.graph.invariant.1 in
    let edges : c.as_slice-2.result.now ≡ g.edges = c.as_slice-2.ensures.value ∙ ap (λ v. v.edges) c.graph.view_is in
    let stopped : Stopped g placed waits = record { taken = c.in_ok-placed.ensures.taken; same_length = c.in_ok-placed.ensures.length; tell = c.in_ok-placed.ensures.waits } in
    let least : (node a : ℕ) → Contains g.edges (a, node) → 0 < get_or waits a 0 → IsEarliestWaiting waits g.edges node (get_or before node 0) =
    subst (λ e. (node a : ℕ) → Contains e (a, node) → 0 < get_or waits a 0 → IsEarliestWaiting waits e node (get_or before node 0)) edges
    (subst (λ w. (node a : ℕ) → Contains c.as_slice-2.result.now (a, node) → 0 < get_or w a 0 → IsEarliestWaiting w c.as_slice-2.result.now node (get_or before node 0)) c.as_slice-3.ensures.value c.in_ok-before.ensures.earliest) in
    let some = subst (λ w. 0 < get_or w c.in-Some.start 0) c.as_slice.ensures.value c.in-Some.ensures.waiting in
    let first = subst (λ w. (node : ℕ) → 0 < get_or w node 0 → c.in-Some.start ≤ node) c.as_slice.ensures.value c.in-Some.ensures.earliest in
    let lasso = subst (λ b. IsLasso b c.in-Some.start path again) c.as_slice-4.ensures.value c.in_ok-path.ensures in
    let turned = subst (λ p. IsTurned p again cycle) c.as_slice-5.ensures.value c.in_ok-cycle.ensures in
    let t = told g placed waits before c.in-Some.start path again cycle within stopped least some first lasso turned in
    record {
      lawful = tt;
      taken = tt;
      alone = tt;
      least = tt;
      none_lawful = t.none_lawful;
      closed = t.closed;
      once = t.once;
      begins = t.begins;
      found = t.is_found;
      found_alone = λ other h. found_alone g cycle other t.is_found h;
    }
