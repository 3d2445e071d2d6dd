use Rattle.std.proofs.Common.{◌⊎◌, refl, sym, subst}
use Rattle.tree_fs.specs.Story.{disk_of}
use Rattle.command_steps.specs.Stops.{IsFault}
use Rattle.intent_journal.specs.Found.{IsFound}
use Rattle.recover_run.proofs.Behind.{none_end}
use Rattle.deploy_engine.specs.RecoverWork.{IsStuck}
use Rattle.deploy_engine.proofs.Recovering.{still_resumes, stuck_by}
use Rattle.deploy_engine.proofs.commands.recover.resume_found.Goals as goal

pub returns-in-Err-clause-stuck : goal.returns-in-Err-clause-stuck
returns-in-Err-clause-stuck g c = λ told.
    let d = disk_of (g.T.Tree.story c.args.tree.now) in
    subst (λ stop. IsFault stop ⊎ IsStuck d stop) (sym c.recover_stop.ensures)
    (stuck_by d c.in-Some.intent (subst (IsFound d) c.in-Some.is (c.requires.found told)) c.in-Err.error c.in-Err.ensures.bad (c.in-Err.ensures.never told))

pub returns-in-None-clause-resumes : goal.returns-in-None-clause-resumes
returns-in-None-clause-resumes g c = λ told. still_resumes (g.T.Tree.story c.args.tree.now) _ refl

pub returns-in-None-clause-ends : goal.returns-in-None-clause-ends
returns-in-None-clause-ends g c = λ told swept.
    let s = g.T.Tree.story c.args.tree.now in
    none_end s swept s refl (subst (IsFound (disk_of s)) c.in-None.is (c.requires.found told))
