use Rattle.std.proofs.Common.{sym, subst}
use Rattle.command_words.specs.Paths.{SetsUserPath}
use Rattle.deploy_engine.specs.Table.{work_of}
use Rattle.deploy_engine.specs.Carried.{Carried}
use Rattle.deploy_engine.proofs.Sampling.{sampled}
use Rattle.deploy_engine.proofs.Settled.{settled_row}
use Rattle.deploy_engine.proofs.engine.carry_out.Goals as goal

pub returns-in-Recover-clause-carried : goal.returns-in-Recover-clause-carried
returns-in-Recover-clause-carried g c = λ told input.
    subst (λ k. Carried (work_of input k) c.args.limits.now (g.T.Tree.story c.args.tree.now) (g.T.Tree.story c.recover_left.new.tree) c.recover_left.result) (sym c.in-Recover.is)
    (c.recover_left.ensures.carried told c.args.limits.now)

pub change_profile-requires : goal.change_profile-requires
change_profile-requires g c = subst SetsUserPath c.in-Edit.is c.requires.user_path

pub returns-in-Edit-clause-carried : goal.returns-in-Edit-clause-carried
returns-in-Edit-clause-carried g c = λ told input.
    subst (λ k. Carried (work_of input k) c.args.limits.now (g.T.Tree.story c.args.tree.now) (g.T.Tree.story c.change_profile.new.tree) c.change_profile.result) (sym c.in-Edit.is)
    (c.change_profile.ensures.carried told)

pub returns-in-Settle-default-false-clause-carried : goal.returns-in-Settle-default-false-clause-carried
returns-in-Settle-default-false-clause-carried g c = λ told input.
    settled_row input c.args.command c.in-Settle-default-false.choices c.in-Settle-default-false.from_input c.args.limits.now (g.T.Tree.story c.args.tree.now) (g.T.Tree.story c.settle.new.tree) c.settle.result c.in-Settle-default-false.is c.requires.no_input
    (c.settle.ensures.carried told)

pub returns-in-Sample-clause-carried : goal.returns-in-Sample-clause-carried
returns-in-Sample-clause-carried g c = λ told input.
    subst (λ k. Carried (work_of input k) c.args.limits.now (g.T.Tree.story c.args.tree.now) (g.T.Tree.story c.args.tree.now) c.tell_sample.result) (sym c.in-Sample.is)
    (sampled c.in-Sample.number c.args.limits.now (g.T.Tree.story c.args.tree.now) c.tell_sample.result c.tell_sample.ensures.lines c.tell_sample.ensures.changes c.tell_sample.ensures.stopped)
