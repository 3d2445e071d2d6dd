use Rattle.std.proofs.Common.{ap, subst, arith}
use Rattle.intent_journal.specs.Counts.{SyncsAtMost, folder_count}
use Rattle.intent_journal.proofs.Counting.{syncs_more, syncs_trans}
use Rattle.tree_fs.specs.Story.{disk_of}
use Rattle.tree_fs.proofs.Moments.{along_last}
use Rattle.intent_journal.specs.declared.temp.Temp.TheVariants as temp
use Rattle.plan_exec.proofs.Manifests.{temps_beside, then_installs, then_temped, place_kept, written_as, installed_here, held_temp}
use Rattle.plan_exec.proofs.manifest.write_manifest.Goals as goal

pub returns-in_err-temp-clause-stops : goal.returns-in_err-temp-clause-stops
returns-in_err-temp-clause-stops g c = λ told. temps_beside (g.T.Tree.story c.args.tree.now) _ (c.write_temp.ensures.stops told)

pub install-requires-clause-place : goal.install-requires-clause-place
install-requires-clause-place g c = λ told. place_kept c.in_ok-temp.temp c.in_ok-temp.ensures.guard (disk_of (g.T.Tree.story c.args.tree.now)) _ (along_last _ _ _ (c.write_temp.ensures.stops told)) (c.requires.place told)

pub returns-in-Ok-clause-stops : goal.returns-in-Ok-clause-stops
returns-in-Ok-clause-stops g c = λ told. then_installs c.in_ok-temp.temp c.in_ok-temp.ensures.guard (g.T.Tree.story c.args.tree.now) (g.T.Tree.story c.write_temp.new.tree) _ (c.write_temp.ensures.stops told)
    (c.install.ensures.stops told c.args.text.now (written_as c.in_ok-temp.temp c.in_ok-temp.ensures.guard c.args.text.now _ (c.in_ok-temp.ensures.done told)))

pub returns-in-Err-clause-stops : goal.returns-in-Err-clause-stops
returns-in-Err-clause-stops g c = λ told.
    then_temped (g.T.Tree.story c.args.tree.now) (g.T.Tree.story c.install.new.tree) _
    (then_installs c.in_ok-temp.temp c.in_ok-temp.ensures.guard (g.T.Tree.story c.args.tree.now) (g.T.Tree.story c.write_temp.new.tree) _ (c.write_temp.ensures.stops told)
    (c.install.ensures.stops told c.args.text.now (written_as c.in_ok-temp.temp c.in_ok-temp.ensures.guard c.args.text.now _ (c.in_ok-temp.ensures.done told))))
    (c.give_up.ensures.stops told temp.Manifest (held_temp c.in-Err.held.temp c.in_ok-temp.temp c.in_ok-temp.ensures.guard c.in-Err.ensures.held.0))

pub returns-in-Ok-clause-done : goal.returns-in-Ok-clause-done
returns-in-Ok-clause-done g c = λ told. installed_here c.in_ok-temp.temp c.in_ok-temp.ensures.guard c.args.text.now _ _ (c.in_ok-temp.ensures.done told) (c.in-Ok.ensures.done told)

pub returns-in_err-temp-clause-syncs : goal.returns-in_err-temp-clause-syncs
returns-in_err-temp-clause-syncs g c = λ told. syncs_more 0 2 _ _ (omega arith) (c.write_temp.ensures.syncs told)

pub returns-in-Ok-clause-syncs : goal.returns-in-Ok-clause-syncs
returns-in-Ok-clause-syncs g c = λ told. syncs_trans 0 2 _ _ _ (c.write_temp.ensures.syncs told) (subst (λ n. SyncsAtMost n (g.T.Tree.story c.write_temp.new.tree) (g.T.Tree.story c.install.new.tree)) (ap folder_count c.in_ok-temp.ensures.guard) (c.install.ensures.syncs told))

pub returns-in-Err-clause-syncs : goal.returns-in-Err-clause-syncs
returns-in-Err-clause-syncs g c = λ told.
    let n = subst (λ n. SyncsAtMost n (g.T.Tree.story c.write_temp.new.tree) (g.T.Tree.story c.install.new.tree)) (ap folder_count c.in_ok-temp.ensures.guard) (c.install.ensures.syncs told) in
    syncs_trans 2 0 _ (g.T.Tree.story c.install.new.tree) _ (syncs_trans 0 2 _ _ _ (c.write_temp.ensures.syncs told) n) (c.give_up.ensures.syncs told)
