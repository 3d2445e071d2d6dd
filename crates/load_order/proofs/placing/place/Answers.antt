use Rattle.std.proofs.Common.{◌<◌, ◌≤◌, ◌≡◌, ◌++◌, ◌∷◌, [], ℕ, All, length, get_or, sym, ap, subst, ◌∙◌, arith}
use Rattle.std.specs.BTreeSet.{contains}
use Rattle.std.specs.Ordering.{nat_cmp}
use Rattle.std.specs.Vec.{with_items}
use Rattle.std.proofs.lemmas.List.{with_items_is}
use Rattle.mod_rules.specs.Edges.{AreWithin}
use Rattle.load_order.specs.Counts.{count_into, edges_from}
use Rattle.load_order.proofs.Steps.{Going, left, left_fewer, begun, is_next, from_within, enough, turned, none_ready, all_taken, waits_tell}
use Rattle.load_order.proofs.placing.place.Goals as goal

pub loop-node-init : goal.loop-node-init
loop-node-init c =
    begun c.args.graph.now _ c.in_ok-waits.waits.items c.as_slice.result.now c.as_slice-edges.result.now c.graph.inside.count (contains nat_cmp c.in_ok-ready.ready) c.new-placed.ensures.items c.as_slice.ensures.value
    (c.as_slice-edges.ensures.value ∙ ap (λ g. g.edges) c.graph.view_is) (ap (λ g. g.count) c.graph.view_is)
    c.in_ok-waits.ensures.length c.in_ok-waits.ensures.counts c.in_ok-ready.ensures

pub release-requires-clause-within : goal.release-requires-clause-within
release-requires-clause-within c =
    let g = c.args.graph.now in
    let span = c.edges_from.ensures ∙ ap (edges_from c.in-Some.node) (c.as_slice-edges.ensures.value ∙ ap (λ g. g.edges) c.graph.view_is) in
    subst (λ l. All (λ (e : ℕ × ℕ). e.1 < length c.as_mut_slice.result.now) l) (sym span)
    (subst (λ w. All (λ (e : ℕ × ℕ). e.1 < length w) (edges_from c.in-Some.node g.edges)) (sym c.as_mut_slice.ensures.value)
    (from_within g c.loop-node.waits.items c.in-Some.node (subst (λ v. AreWithin v.count v.edges) c.graph.view_is c.graph.invariant.1) c.loop-node.invariant.same_length))

pub release-requires-clause-enough : goal.release-requires-clause-enough
release-requires-clause-enough c =
    let g = c.args.graph.now in
    let at = c.loop-node in
    let x = c.in-Some.node in
    let next = is_next g at.placed.items at.waits.items (contains nat_cmp at.ready) x at.invariant c.in-Some.ensures.member c.in-Some.ensures.least in
    let span = c.edges_from.ensures ∙ ap (edges_from x) (c.as_slice-edges.ensures.value ∙ ap (λ g. g.edges) c.graph.view_is) in
    λ y l. subst (λ w. count_into y c.edges_from.result.now ≤ get_or w y 0) (sym c.as_mut_slice.ensures.value)
    (subst (λ e. count_into y e ≤ get_or at.waits.items y 0) (sym span)
    (enough g at.placed.items at.waits.items (contains nat_cmp at.ready) x y at.invariant next.may.unplaced (subst (λ w. y < length w) c.as_mut_slice.ensures.value l)))

pub loop-node-smaller : goal.loop-node-smaller
loop-node-smaller c =
    let g = c.args.graph.now in
    let at = c.loop-node in
    let x = c.in-Some.node in
    let next = is_next g at.placed.items at.waits.items (contains nat_cmp at.ready) x at.invariant c.in-Some.ensures.member c.in-Some.ensures.least in
    subst (λ l. left g.count l < left g.count at.placed.items) (sym c.in_ok-push.ensures.items) (left_fewer g.count at.placed.items x next.may.within next.may.unplaced)

pub loop-node-preserved : goal.loop-node-preserved
loop-node-preserved c =
    let g = c.args.graph.now in
    let at = c.loop-node in
    let x = c.in-Some.node in
    let next = is_next g at.placed.items at.waits.items (contains nat_cmp at.ready) x at.invariant c.in-Some.ensures.member c.in-Some.ensures.least in
    let span = c.edges_from.ensures ∙ ap (edges_from x) (c.as_slice-edges.ensures.value ∙ ap (λ g. g.edges) c.graph.view_is) in
    let lent : c.as_mut_slice.result.now ≡ at.waits.items = c.as_mut_slice.ensures.value in
    let whole = with_items_is at.waits c.release.new.waits (omega (arith, c.in_ok-release.ensures.length, c.as_mut_slice.ensures.len)) in
    subst (λ p. Going g p (with_items at.waits c.release.new.waits).items (contains nat_cmp c.release.new.ready)) (sym c.in_ok-push.ensures.items)
    (subst (λ w. Going g (at.placed.items ++ x ∷ []) w (contains nat_cmp c.release.new.ready)) (sym whole)
    (turned g at.placed.items at.waits.items c.as_mut_slice.result.now c.release.new.waits c.edges_from.result.now (contains nat_cmp at.ready) (contains nat_cmp c.pop_first.new.self) (contains nat_cmp c.release.new.ready) x
    c.as_mut_slice.ensures.value span at.invariant next c.in-Some.ensures.updates.0 c.in_ok-release.ensures.length c.in_ok-release.ensures.waits c.in_ok-release.ensures.ready))

pub returns-clause-taken : goal.returns-clause-taken
returns-clause-taken c =
    let at = c.loop-node in
    let none = none_ready at.ready (λ some. (let bad = c.in_default.ensures.variant.1 some in cc)) in
    all_taken c.args.graph.now at.placed.items at.waits.items (contains nat_cmp at.ready) at.invariant none

pub returns-clause-waits : goal.returns-clause-waits
returns-clause-waits c =
    let at = c.loop-node in
    let none = none_ready at.ready (λ some. (let bad = c.in_default.ensures.variant.1 some in cc)) in
    λ y l. waits_tell c.args.graph.now at.placed.items at.waits.items (contains nat_cmp at.ready) y at.invariant none l
