use Rattle.tree_fs.specs.Story.{disk_of}
use Rattle.command_steps.proofs.ModsFound.{distinct_in_order}
use Rattle.command_steps.proofs.Stopping.{has_default}
use Rattle.command_steps.proofs.profile.profile_of_mods.Goals as goal

pub default_profile-requires : goal.default_profile-requires
default_profile-requires g c = distinct_in_order _ c.in_ok-ids.ensures.order

pub returns-clause-found : goal.returns-clause-found
returns-clause-found g c = λ told.
    has_default (disk_of (g.T.Tree.story c.args.tree.now)) c.in_ok-ids.ids.items _ (g.met.T.Tree.valid _ told) (c.requires told) (c.in_ok-ids.ensures.answer told) c.in_ok-default_profile.ensures
