use Rattle.std.proofs.Common.{ap, subst}
use Rattle.tree_fs.specs.Story.{disk_of}
use Rattle.tree_fs.proofs.Moments.{along_last}
use Rattle.intent_journal.specs.Counts.{SyncsAtMost, folder_count}
use Rattle.intent_journal.proofs.Counting.{syncs_trans}
use Rattle.profile_write.proofs.Amid.{temps_amid, then_installs, then_temped, place_kept, written_as, installed_as}
use Rattle.profile_write.proofs.Left.{written, stops_amid, keeps_amid, leaves_amid}
use Rattle.profile_write.proofs.write.write_profile.Goals as goal

pub returns-in_err-temp-clause-stops : goal.returns-in_err-temp-clause-stops
returns-in_err-temp-clause-stops g c = λ told quiet. stops_amid c.args.text.now _ _ quiet (temps_amid c.args.text.now _ _ quiet (c.write_temp.ensures.stops told))

pub returns-in_err-temp-clause-leaves : goal.returns-in_err-temp-clause-leaves
returns-in_err-temp-clause-leaves g c = λ told quiet. leaves_amid c.args.text.now (g.T.Tree.story c.args.tree.now) (g.T.Tree.story c.write_temp.new.tree) quiet (temps_amid c.args.text.now _ _ quiet (c.write_temp.ensures.stops told))

pub returns-in_err-temp-clause-keeps : goal.returns-in_err-temp-clause-keeps
returns-in_err-temp-clause-keeps g c = λ told quiet. keeps_amid c.args.text.now _ _ quiet (temps_amid c.args.text.now _ _ quiet (c.write_temp.ensures.stops told))

pub install-requires-clause-place : goal.install-requires-clause-place
install-requires-clause-place g c = λ told. place_kept c.in_ok-temp.temp c.in_ok-temp.ensures.guard (disk_of (g.T.Tree.story c.args.tree.now)) _ (along_last _ _ _ (c.write_temp.ensures.stops told)) (c.requires.place told)

pub returns-in-Ok-clause-done : goal.returns-in-Ok-clause-done
returns-in-Ok-clause-done g c = λ told quiet.
    let text = c.args.text.now in
    let s = g.T.Tree.story c.args.tree.now in
    let t = g.T.Tree.story c.write_temp.new.tree in
    let u = g.T.Tree.story c.install.new.tree in
    let w = written_as c.in_ok-temp.temp c.in_ok-temp.ensures.guard text (disk_of t) (c.in_ok-temp.ensures.done told) in
    let amid = then_installs text c.in_ok-temp.temp c.in_ok-temp.ensures.guard s t u (temps_amid text s t quiet (c.write_temp.ensures.stops told)) w (c.install.ensures.stops told text w) in
    written text (disk_of s) (disk_of u) quiet (along_last _ s u amid)
    (installed_as c.in_ok-temp.temp c.in_ok-temp.ensures.guard text (disk_of u) (c.in-Ok.ensures.done told text w))

pub returns-in-Ok-clause-stops : goal.returns-in-Ok-clause-stops
returns-in-Ok-clause-stops g c = λ told quiet.
    let text = c.args.text.now in
    let s = g.T.Tree.story c.args.tree.now in
    let t = g.T.Tree.story c.write_temp.new.tree in
    let u = g.T.Tree.story c.install.new.tree in
    let w = written_as c.in_ok-temp.temp c.in_ok-temp.ensures.guard text (disk_of t) (c.in_ok-temp.ensures.done told) in
    stops_amid text s u quiet (then_installs text c.in_ok-temp.temp c.in_ok-temp.ensures.guard s t u (temps_amid text s t quiet (c.write_temp.ensures.stops told)) w (c.install.ensures.stops told text w))

pub returns-in-Ok-clause-leaves : goal.returns-in-Ok-clause-leaves
returns-in-Ok-clause-leaves g c = λ told quiet.
    let text = c.args.text.now in
    let s = g.T.Tree.story c.args.tree.now in
    let t = g.T.Tree.story c.write_temp.new.tree in
    let u = g.T.Tree.story c.install.new.tree in
    let w = written_as c.in_ok-temp.temp c.in_ok-temp.ensures.guard text (disk_of t) (c.in_ok-temp.ensures.done told) in
    leaves_amid text s u quiet (then_installs text c.in_ok-temp.temp c.in_ok-temp.ensures.guard s t u (temps_amid text s t quiet (c.write_temp.ensures.stops told)) w (c.install.ensures.stops told text w))

pub returns-in-Ok-clause-keeps : goal.returns-in-Ok-clause-keeps
returns-in-Ok-clause-keeps g c = λ told quiet.
    let text = c.args.text.now in
    let s = g.T.Tree.story c.args.tree.now in
    let t = g.T.Tree.story c.write_temp.new.tree in
    let u = g.T.Tree.story c.install.new.tree in
    let w = written_as c.in_ok-temp.temp c.in_ok-temp.ensures.guard text (disk_of t) (c.in_ok-temp.ensures.done told) in
    keeps_amid text s u quiet (then_installs text c.in_ok-temp.temp c.in_ok-temp.ensures.guard s t u (temps_amid text s t quiet (c.write_temp.ensures.stops told)) w (c.install.ensures.stops told text w))

pub returns-in-Err-clause-stops : goal.returns-in-Err-clause-stops
returns-in-Err-clause-stops g c = λ told quiet.
    let text = c.args.text.now in
    let s = g.T.Tree.story c.args.tree.now in
    let t = g.T.Tree.story c.write_temp.new.tree in
    let u = g.T.Tree.story c.install.new.tree in
    let v = g.T.Tree.story c.give_up.new.tree in
    let w = written_as c.in_ok-temp.temp c.in_ok-temp.ensures.guard text (disk_of t) (c.in_ok-temp.ensures.done told) in
    let amid = then_installs text c.in_ok-temp.temp c.in_ok-temp.ensures.guard s t u (temps_amid text s t quiet (c.write_temp.ensures.stops told)) w (c.install.ensures.stops told text w) in
    stops_amid text s v quiet (then_temped text s u v amid (c.give_up.ensures.stops told))

pub returns-in-Err-clause-leaves : goal.returns-in-Err-clause-leaves
returns-in-Err-clause-leaves g c = λ told quiet.
    let text = c.args.text.now in
    let s = g.T.Tree.story c.args.tree.now in
    let t = g.T.Tree.story c.write_temp.new.tree in
    let u = g.T.Tree.story c.install.new.tree in
    let v = g.T.Tree.story c.give_up.new.tree in
    let w = written_as c.in_ok-temp.temp c.in_ok-temp.ensures.guard text (disk_of t) (c.in_ok-temp.ensures.done told) in
    let amid = then_installs text c.in_ok-temp.temp c.in_ok-temp.ensures.guard s t u (temps_amid text s t quiet (c.write_temp.ensures.stops told)) w (c.install.ensures.stops told text w) in
    leaves_amid text s v quiet (then_temped text s u v amid (c.give_up.ensures.stops told))

pub returns-in-Err-clause-keeps : goal.returns-in-Err-clause-keeps
returns-in-Err-clause-keeps g c = λ told quiet.
    let text = c.args.text.now in
    let s = g.T.Tree.story c.args.tree.now in
    let t = g.T.Tree.story c.write_temp.new.tree in
    let u = g.T.Tree.story c.install.new.tree in
    let v = g.T.Tree.story c.give_up.new.tree in
    let w = written_as c.in_ok-temp.temp c.in_ok-temp.ensures.guard text (disk_of t) (c.in_ok-temp.ensures.done told) in
    let amid = then_installs text c.in_ok-temp.temp c.in_ok-temp.ensures.guard s t u (temps_amid text s t quiet (c.write_temp.ensures.stops told)) w (c.install.ensures.stops told text w) in
    keeps_amid text s v quiet (then_temped text s u v amid (c.give_up.ensures.stops told))

pub returns-in-Ok-clause-syncs : goal.returns-in-Ok-clause-syncs
returns-in-Ok-clause-syncs g c = λ told. syncs_trans 0 1 _ _ _ (c.write_temp.ensures.syncs told) (subst (λ n. SyncsAtMost n (g.T.Tree.story c.write_temp.new.tree) (g.T.Tree.story c.install.new.tree)) (ap folder_count c.in_ok-temp.ensures.guard) (c.install.ensures.syncs told))

pub returns-in-Err-clause-syncs : goal.returns-in-Err-clause-syncs
returns-in-Err-clause-syncs g c = λ told.
    let n = subst (λ n. SyncsAtMost n (g.T.Tree.story c.write_temp.new.tree) (g.T.Tree.story c.install.new.tree)) (ap folder_count c.in_ok-temp.ensures.guard) (c.install.ensures.syncs told) in
    syncs_trans 1 0 _ (g.T.Tree.story c.install.new.tree) _ (syncs_trans 0 1 _ _ _ (c.write_temp.ensures.syncs told) n) (c.give_up.ensures.syncs told)
