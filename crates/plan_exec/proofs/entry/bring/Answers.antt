use Rattle.tree_fs.specs.Spot.{spot_of}
use Rattle.plan_exec.proofs.Places.{nothing_yet}
use Rattle.plan_exec.proofs.entry.bring.Goals as goal

pub returns-in_err-there-clause-stops : goal.returns-in_err-there-clause-stops
returns-in_err-there-clause-stops g c = λ told.
    nothing_yet (spot_of c.args.to.now) _ (g.T.Tree.story c.args.tree.now) _ (g.met.T.Tree.valid _ told) (c.in_err-there.ensures.same told)
