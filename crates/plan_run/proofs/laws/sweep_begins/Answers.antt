use Rattle.plan_run.proofs.Swept.{swept_quiet, swept_open, sweeps_keep}
use Rattle.plan_run.proofs.laws.sweep_begins.Goals as goal

pub returns-clause-quiet : goal.returns-clause-quiet
returns-clause-quiet c = swept_quiet

pub returns-clause-open_places : goal.returns-clause-open_places
returns-clause-open_places c = λ a e sweeps gone which way. swept_open a e sweeps gone which way

pub returns-clause-keeps : goal.returns-clause-keeps
returns-clause-keeps c = sweeps_keep
