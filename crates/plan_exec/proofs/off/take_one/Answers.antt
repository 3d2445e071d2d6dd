use Rattle.std.proofs.Common.{rules, ◌∙◌, sym, subst}
use Rattle.tree_fs.specs.Spot.{spot_of}
use Rattle.tree_fs.specs.Story.{disk_of}
use Rattle.plan_exec.specs.TakingOff.{HasEntry}
use Rattle.plan_exec.proofs.TakingOff.{looked, takes_from, some_listed}
use Rattle.plan_exec.proofs.off.take_one.Goals as goal

pub returns-in_err-kind-clause-stops : goal.returns-in_err-kind-clause-stops
returns-in_err-kind-clause-stops g c = λ told. looked (spot_of c.args.at.now) (g.T.Tree.story c.args.tree.now) _ (g.met.T.Tree.valid _ told) (c.in_err-kind.ensures.same told)

pub returns-then-ne-clause-stops : goal.returns-then-ne-clause-stops
returns-then-ne-clause-stops g c = λ told. looked (spot_of c.args.at.now) (g.T.Tree.story c.args.tree.now) _ (g.met.T.Tree.valid _ told) (c.in_ok-kind.ensures.same told)

pub returns-in_err-list-clause-stops : goal.returns-in_err-list-clause-stops
returns-in_err-list-clause-stops g c = λ told. looked (spot_of c.args.at.now) (g.T.Tree.story c.args.tree.now) _ (g.met.T.Tree.valid _ told) (c.in_err-list.ensures.same told ∙ c.in_ok-kind.ensures.same told)

pub returns-then-not-is_empty-clause-stops : goal.returns-then-not-is_empty-clause-stops
returns-then-not-is_empty-clause-stops g c = λ told. looked (spot_of c.args.at.now) (g.T.Tree.story c.args.tree.now) _ (g.met.T.Tree.valid _ told) (c.in_ok-list.ensures.same told ∙ c.in_ok-kind.ensures.same told)

pub returns-then-not-is_empty-clause-done : goal.returns-then-not-is_empty-clause-done
returns-then-not-is_empty-clause-done g c = λ told there.
    subst (λ s. HasEntry (disk_of s) (spot_of c.args.at.now)) (sym (c.in_ok-list.ensures.same told))
    (some_listed (disk_of (g.T.Tree.story c.kind.new.self)) (spot_of c.args.at.now) c.in_ok-list.field-0.items (λ nil. search (rules, nil)) (c.in_ok-list.ensures.answer told))

pub returns-clause-stops : goal.returns-clause-stops
returns-clause-stops g c = λ told. takes_from (spot_of c.args.at.now) (g.T.Tree.story c.args.tree.now) _ _ (c.in_ok-list.ensures.same told ∙ c.in_ok-kind.ensures.same told) (c.take_empty.ensures.stops told)
