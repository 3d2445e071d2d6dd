use Rattle.tree_fs.specs.Story.{disk_of}
use Rattle.plan_exec.proofs.Places.{room_stops, room_done, told_file}
use Rattle.tree_fs.specs.Spot.{spot_of}
use Rattle.plan_exec.proofs.entry.make_room.Goals as goal

pub returns-then-there-clause-stops : goal.returns-then-there-clause-stops
returns-then-there-clause-stops g c = λ told. room_stops _ _ _ _ (g.met.T.Tree.valid _ told) (told_file (disk_of (g.T.Tree.story c.args.tree.now)) (spot_of c.args.at.now) c.args.there c.if-there.true (c.requires told)) (c.unlink.ensures.adds told)

pub returns-then-there-clause-done : goal.returns-then-there-clause-done
returns-then-there-clause-done g c = λ told. room_done _ _ _ _ (c.unlink.ensures.adds told)
