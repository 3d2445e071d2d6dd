use Rattle.purge_run.proofs.PurgeSound.{purge_sound}
use Rattle.purge_run.proofs.laws.purge_sound.Goals as goal

pub returns : goal.returns
returns c = λ a old n plan can is. purge_sound a old n can plan is
