use Rattle.std.proofs.Common.{◌≡◌, sym, ap, ◌∙◌, refl, Contains, arith, below_more}
use Rattle.load_order.proofs.Checks.{listed, not_listed}
use Rattle.load_order.proofs.check.has_every_node.Goals as goal

pub returns-then-not-contains : goal.returns-then-not-contains
returns-then-not-contains c =
    let k = c.loop-node.node-counter in
    let same : c.graph.inside.count ≡ c.args.graph.now.count = ap (λ g. g.count) c.graph.view_is in
    (λ f. cc, λ all. absurd (not_listed c.args.list.now k (sym c.contains.ensures.value ∙ c.if-not-contains.true) (all k (omega (arith, c.loop-node-test.true, same)))))

pub loop-node-preserved : goal.loop-node-preserved
loop-node-preserved c =
    below_more (Contains c.args.list.now) c.loop-node.node-counter c.loop-node.invariant (listed c.args.list.now c.loop-node.node-counter (sym c.contains.ensures.value ∙ c.if-not-contains.false))

pub returns : goal.returns
returns c =
    let same : c.graph.inside.count ≡ c.args.graph.now.count = ap (λ g. g.count) c.graph.view_is in
    (λ _ k l. c.loop-node.invariant k (omega (arith, l, same, c.loop-node-test.false)), λ _. refl)
