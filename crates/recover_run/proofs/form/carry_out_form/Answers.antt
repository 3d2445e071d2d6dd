use Rattle.std.proofs.Common.{subst}
use Rattle.tree_fs.specs.Story.{disk_of}
use Rattle.recover_run.specs.Recovery.{IsFormReady}
use Rattle.recover_run.proofs.form.carry_out_form.Goals as goal

pub returns-in-Set-clause-mid : goal.returns-in-Set-clause-mid
returns-in-Set-clause-mid g c = λ told is ready temps a sound valid fresh mid.
    c.carry_out_set.ensures.mid told (subst (λ p. IsFormReady p c.args.ready.now (disk_of (g.T.Tree.story c.args.tree.now))) c.in-Set.is ready) temps a sound valid fresh mid
