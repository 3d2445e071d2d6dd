use Rattle.desk_model.proofs.Kept.{image-standing}
use Rattle.desk_model.proofs.Named.{image-outcome}
use Rattle.desk_model.proofs.laws.images_stand.Goals as goal

pub returns-clause-stand : goal.returns-clause-stand
returns-clause-stand c = image-standing

pub returns-clause-agree : goal.returns-clause-agree
returns-clause-agree c = image-outcome
