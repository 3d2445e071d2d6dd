use Rattle.std.proofs.Common.{subst}
use Rattle.move_plan.specs.Rules.{PassesRules}
use Rattle.intent_journal.proofs.ready.Ready.plan.Goals as goal

pub returns-clause-rules : goal.returns-clause-rules
returns-clause-rules c = subst PassesRules c.self.view_is c.self.invariant.rules
