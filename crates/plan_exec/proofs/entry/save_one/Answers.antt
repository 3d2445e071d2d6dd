use Rattle.std.proofs.Common.{◌≢◌, ◌∙◌, rules}
use Rattle.tree_fs.specs.declared.name.Kind.TheVariants.{File}
use Rattle.tree_fs.specs.Spot.{spot_of}
use Rattle.plan_exec.proofs.Saving.{brings_nothing, brings_some}
use Rattle.plan_exec.proofs.entry.save_one.Goals as goal

pub returns-in_err-there-clause-stops : goal.returns-in_err-there-clause-stops
returns-in_err-there-clause-stops g c = λ told. brings_nothing _ _ (g.T.Tree.story c.args.tree.now) _ (g.met.T.Tree.valid _ told) (c.in_err-there.ensures.same told)

pub returns-then-eq-clause-stops : goal.returns-then-eq-clause-stops
returns-then-eq-clause-stops g c = λ told. brings_nothing _ _ (g.T.Tree.story c.args.tree.now) _ (g.met.T.Tree.valid _ told) (c.in_ok-there.ensures.same told)

pub returns-clause-stops : goal.returns-clause-stops
returns-clause-stops g c = λ told.
    let ne : c.in_ok-there.there ≢ File = search rules in
    brings_some (spot_of c.args.save.now.1) (spot_of c.args.save.now.0) (g.T.Tree.story c.args.tree.now) (g.T.Tree.story c.kind.new.self) _ (g.met.T.Tree.valid _ told) (c.in_ok-there.ensures.same told)
    (λ is. ne (c.in_ok-there.ensures.answer told ∙ is)) (c.save_to.ensures.stops told)
