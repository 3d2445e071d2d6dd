use Rattle.tree_fs.specs.Story.{disk_of}
use Rattle.tree_fs.proofs.KindOf.{kind-file}
use Rattle.desk_model.specs.Places.{profile_spot}
use Rattle.command_steps.proofs.profile.profile_there.Goals as goal

pub control_bytes-requires : goal.control_bytes-requires
control_bytes-requires g c = λ told. (kind-file (disk_of (g.T.Tree.story c.args.tree.now)) profile_spot (c.requires told)).1
