use Rattle.tree_fs.specs.Spot.{spot_of}
use Rattle.tree_fs.specs.Story.{disk_of}
use Rattle.tree_fs.proofs.Frames.{touches_none}
use Rattle.plan_exec.proofs.Places.{can_relink, relink_stops, relink_done, open_no_folder}
use Rattle.plan_exec.proofs.Runs.{runs_weaken, runs_last}
use Rattle.plan_exec.proofs.entry.relink.Goals as goal

pub returns-in_err-make_room-clause-stops : goal.returns-in_err-make_room-clause-stops
returns-in_err-make_room-clause-stops g c = λ told. runs_weaken _ _ _ _ _ (λ e h. touches_none _ _ _ e h) (c.make_room.ensures.stops told)

pub link-requires : goal.link-requires
link-requires g c = λ told.
    let s = g.T.Tree.story c.args.tree.now in
    let t = g.T.Tree.story c.make_room.new.tree in
    can_relink c.args.from.now c.args.to.now s t (c.requires.apart told) (c.requires.source told) (c.requires.folder told) (open_no_folder (disk_of s) (spot_of c.args.to.now) c.args.there (c.requires.place told))
    (disk_of t) (runs_last 0 _ s t (c.make_room.ensures.stops told)) (c.in_ok-make_room.ensures.done told)

pub returns-clause-stops : goal.returns-clause-stops
returns-clause-stops g c = λ told.
    let s = g.T.Tree.story c.args.tree.now in
    let t = g.T.Tree.story c.make_room.new.tree in
    relink_stops c.args.from.now c.args.to.now s t (c.requires.apart told) (c.requires.source told) (c.requires.folder told) (open_no_folder (disk_of s) (spot_of c.args.to.now) c.args.there (c.requires.place told))
    _ _ (c.make_room.ensures.stops told) (c.in_ok-make_room.ensures.done told) (c.link.ensures.adds told)

pub returns-clause-done : goal.returns-clause-done
returns-clause-done g c = λ told.
    let s = g.T.Tree.story c.args.tree.now in
    let t = g.T.Tree.story c.make_room.new.tree in
    relink_done c.args.from.now c.args.to.now s t (c.requires.apart told) (c.requires.source told) (c.requires.folder told) (open_no_folder (disk_of s) (spot_of c.args.to.now) c.args.there (c.requires.place told))
    _ _ (c.make_room.ensures.stops told) (c.link.ensures.adds told)
