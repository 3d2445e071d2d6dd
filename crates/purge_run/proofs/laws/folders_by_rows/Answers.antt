use Rattle.purge_run.proofs.Made.{made-missing, missing-made}
use Rattle.purge_run.proofs.Gets.{only_own_goes}
use Rattle.purge_run.proofs.laws.folders_by_rows.Goals as goal

pub returns-clause-made : goal.returns-clause-made
returns-clause-made c = λ a old n plan can laid s. (λ h. made-missing a old n can plan laid s h, λ h. missing-made a old n can plan laid s h)

pub returns-clause-off : goal.returns-clause-off
returns-clause-off c = λ a old n plan can laid s g. only_own_goes a old n can plan laid s g
