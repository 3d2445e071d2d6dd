use Rattle.std.proofs.Common.{refl}
use Rattle.conflict_report.proofs.Reporting.{each_once}
use Rattle.plan_tests.proofs.tests.deploying.has_each_once.Goals as goal

pub returns : goal.returns
returns c = λ holds.
    each_once c.args.graph.now c.args.order.now c.args.graph.now.count refl (c.check_order.ensures.0 holds)
