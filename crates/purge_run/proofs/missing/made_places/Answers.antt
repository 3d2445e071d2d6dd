use Rattle.tree_fs.specs.Spot.{spot_of}
use Rattle.purge_run.specs.MadeFolders.{made_at}
use Rattle.plan_lists.proofs.Gathered.{gathered_next, gathered_whole}
use Rattle.purge_run.proofs.missing.made_places.Goals as goal

pub loop-folder-preserved : goal.loop-folder-preserved
loop-folder-preserved c =
    gathered_next (made_at c.args.is_there) spot_of c.args.folders.now c.loop-folder.folder-index c.folder-item.result _ _ _ c.loop-folder-test.true c.folder-item.is c.loop-folder.invariant c.in_ok-place.ensures c.in_ok-push_some.ensures

pub returns : goal.returns
returns c = gathered_whole (made_at c.args.is_there) spot_of c.args.folders.now c.loop-folder.folder-index _ c.loop-folder-test.false c.loop-folder.invariant
