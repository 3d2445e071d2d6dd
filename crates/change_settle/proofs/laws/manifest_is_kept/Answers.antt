use Rattle.change_settle.proofs.NextRows.{next_kept}
use Rattle.change_settle.proofs.Gets.{own_kept}
use Rattle.change_settle.proofs.laws.manifest_is_kept.Goals as goal

pub returns-clause-rows : goal.returns-clause-rows
returns-clause-rows c = λ choice a rows kept. next_kept choice a rows kept

pub returns-clause-own : goal.returns-clause-own
returns-clause-own c = λ choice a old n plan next can laid own. own_kept choice a old n can plan laid next own
