use Rattle.change_settle.proofs.SettleSound.{settle_sound}
use Rattle.change_settle.proofs.laws.settle_sound.Goals as goal

pub returns : goal.returns
returns c = λ choice a old n plan can is. settle_sound choice a old n can plan is
