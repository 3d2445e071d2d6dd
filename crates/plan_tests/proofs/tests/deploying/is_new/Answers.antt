use Rattle.plan_tests.proofs.Scanning.{ids_differ}
use Rattle.plan_tests.proofs.tests.deploying.is_new.Goals as goal

pub returns : goal.returns
returns c = ids_differ c.args.scans.now c.args.id.now c.has_mod.result c.has_mod.ensures
