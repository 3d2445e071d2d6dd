use Rattle.tree_fs.specs.Spot.{spot_of}
use Rattle.plan_exec.proofs.Making.{one_same}
use Rattle.plan_exec.proofs.folders.make_one.Goals as goal

pub returns-in-Absent-clause-stops : goal.returns-in-Absent-clause-stops
returns-in-Absent-clause-stops g c = λ told. one_same (spot_of c.args.at.now) _ _ _ (c.in_ok-kind.ensures.same told) (c.make_absent.ensures.stops told)
