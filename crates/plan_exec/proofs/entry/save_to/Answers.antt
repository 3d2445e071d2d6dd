use Rattle.tree_fs.specs.Spot.{spot_of}
use Rattle.tree_fs.specs.Story.{disk_of}
use Rattle.plan_exec.proofs.Places.{nothing_yet, can_save, told_stops, told_done}
use Rattle.plan_exec.proofs.entry.save_to.Goals as goal

pub returns-in_err-look_for_save-clause-stops : goal.returns-in_err-look_for_save-clause-stops
returns-in_err-look_for_save-clause-stops g c = λ told.
    nothing_yet (spot_of c.args.save.now.1) _ (g.T.Tree.story c.args.tree.now) _ (g.met.T.Tree.valid _ told) (c.in_err-look_for_save.ensures.same told)

pub returns-in_err-link-clause-stops : goal.returns-in_err-link-clause-stops
returns-in_err-link-clause-stops g c = λ told.
    let l = c.in_ok-look_for_save.ensures in
    let s = g.T.Tree.story c.args.tree.now in
    told_stops c.args.save.now.0 c.args.save.now.1 s _ _ _ (g.met.T.Tree.valid _ told) (can_save (spot_of c.args.save.now.0) (spot_of c.args.save.now.1) (disk_of s) (l.source told) (l.place told) (l.folder told)) (l.same told) (c.link.ensures.adds told)

pub returns-clause-stops : goal.returns-clause-stops
returns-clause-stops g c = λ told.
    let l = c.in_ok-look_for_save.ensures in
    let s = g.T.Tree.story c.args.tree.now in
    told_stops c.args.save.now.0 c.args.save.now.1 s _ _ _ (g.met.T.Tree.valid _ told) (can_save (spot_of c.args.save.now.0) (spot_of c.args.save.now.1) (disk_of s) (l.source told) (l.place told) (l.folder told)) (l.same told) (c.link.ensures.adds told)

pub returns-clause-done : goal.returns-clause-done
returns-clause-done g c = λ told.
    let l = c.in_ok-look_for_save.ensures in
    let s = g.T.Tree.story c.args.tree.now in
    told_done c.args.save.now.0 c.args.save.now.1 s _ _ _ (can_save (spot_of c.args.save.now.0) (spot_of c.args.save.now.1) (disk_of s) (l.source told) (l.place told) (l.folder told)) (l.same told) (c.in_ok-link.ensures.adds told)
