use Rattle.plan_exec.proofs.Making.{one_from, one_done, can_make}
use Rattle.plan_exec.proofs.folders.make_absent.Goals as goal

pub returns-in_err-make_folder-clause-stops : goal.returns-in_err-make_folder-clause-stops
returns-in_err-make_folder-clause-stops g c = λ told.
    one_from c.args.at.now _ (g.T.Tree.story c.expect_folder.new.tree) _ _ (c.in_ok-expect_folder.ensures.same told) (g.met.T.Tree.valid _ told) (can_make (g.T.Tree.story c.args.tree.now) _ c.args.at.now c.args.above.now (c.in_ok-expect_folder.ensures.same told) c.requires.above (c.requires.absent told) (c.in_ok-expect_folder.ensures.ok told)) (c.make_folder.ensures.adds told)

pub returns-clause-stops : goal.returns-clause-stops
returns-clause-stops g c = λ told.
    one_from c.args.at.now _ (g.T.Tree.story c.expect_folder.new.tree) _ _ (c.in_ok-expect_folder.ensures.same told) (g.met.T.Tree.valid _ told) (can_make (g.T.Tree.story c.args.tree.now) _ c.args.at.now c.args.above.now (c.in_ok-expect_folder.ensures.same told) c.requires.above (c.requires.absent told) (c.in_ok-expect_folder.ensures.ok told)) (c.make_folder.ensures.adds told)

pub returns-clause-done : goal.returns-clause-done
returns-clause-done g c = λ told. one_done c.args.at.now _ _ _ (c.in_ok-make_folder.ensures.adds told)
