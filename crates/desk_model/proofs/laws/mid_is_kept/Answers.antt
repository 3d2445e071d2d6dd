use Rattle.desk_model.proofs.MidKept.{mid-fewer, image-mid}
use Rattle.desk_model.proofs.laws.mid_is_kept.Goals as goal

pub returns-clause-fewer : goal.returns-clause-fewer
returns-clause-fewer c = mid-fewer

pub returns-clause-images : goal.returns-clause-images
returns-clause-images c = image-mid
