use Rattle.change_settle.proofs.Gets.{made-missing, missing-made, only_own_goes}
use Rattle.change_settle.proofs.laws.folders_by_rows.Goals as goal

pub returns-clause-made : goal.returns-clause-made
returns-clause-made c = λ choice a old n plan can laid s. (λ h. made-missing choice a old n can plan laid s h, λ h. missing-made choice a old n can plan laid s h)

pub returns-clause-off : goal.returns-clause-off
returns-clause-off c = λ choice a old n plan can laid s g. only_own_goes choice a old n can plan laid s g
