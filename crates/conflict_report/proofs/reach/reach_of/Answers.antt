use Rattle.std.proofs.Common.{◌≡◌, ◌-◌, ◌<◌, ◌≤◌, ℕ, List, All, length, get_or, drop, sym, ap, subst, ◌∙◌, arith}
use Rattle.mod_rules.specs.Edges.{AreWithin}
use Rattle.load_order.specs.Counts.{edges_from}
use Rattle.conflict_report.specs.Relations.{GrowsBy, FollowsFrom}
use Rattle.conflict_report.proofs.Reaching.{Tells, told_next, told_all, follow_within, node_within}
use Rattle.conflict_report.proofs.reach.reach_of.Goals as goal

pub follow-requires-clause-node : goal.follow-requires-clause-node
follow-requires-clause-node c =
    let low = node_within c.args.graph.now c.args.order.now c.loop-done.done c.loop-done-test.true c.requires in
    omega (arith, low, c.loop-done.invariant.count)

pub follow-requires-clause-within : goal.follow-requires-clause-within
follow-requires-clause-within c =
    let g = c.args.graph.now in
    let node = get_or c.args.order.now (length c.args.order.now - 1 - c.loop-done.done) 0 in
    let span = c.from_node.ensures ∙ ap (edges_from node) (c.as_slice-edges.ensures.value ∙ ap (λ g. g.edges) c.graph.view_is) in
    let within = subst (λ v. AreWithin v.count v.edges) c.graph.view_is c.graph.invariant.1 in
    subst (λ (l : List (ℕ × ℕ)). All (λ (e : ℕ × ℕ). e.1 < c.loop-done.reach.count) l) (sym span) (follow_within g c.loop-done.reach node within c.loop-done.invariant.count)

pub loop-done-preserved : goal.loop-done-preserved
loop-done-preserved c =
    let g = c.args.graph.now in
    let order = c.args.order.now in
    let at = c.loop-done in
    let node = get_or order (length order - 1 - at.done) 0 in
    let span = c.from_node.ensures ∙ ap (edges_from node) (c.as_slice-edges.ensures.value ∙ ap (λ g. g.edges) c.graph.view_is) in
    let within = subst (λ v. AreWithin v.count v.edges) c.graph.view_is c.graph.invariant.1 in
    told_next g within at.reach c.follow.new.reach order at.done c.loop-done-test.true c.requires at.invariant
    (subst (λ (l : List (ℕ × ℕ)). GrowsBy at.reach c.follow.new.reach (FollowsFrom at.reach node l)) span c.follow.ensures)

pub returns : goal.returns
returns c =
    let g = c.args.graph.now in
    let order = c.args.order.now in
    let within = subst (λ v. AreWithin v.count v.edges) c.graph.view_is c.graph.invariant.1 in
    told_all g c.loop-done.reach order within c.requires (subst (Tells g c.loop-done.reach) (ap (λ n. drop n order) (sub_all (length order) c.loop-done.done c.loop-done-test.false)) c.loop-done.invariant)
  where
    sub_all : (n i : ℕ) → n ≤ i → n - i ≡ 0
    sub_all n i le = omega (arith, le)
