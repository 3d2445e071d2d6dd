use Rattle.std.proofs.Common.{◌≡◌, None, subst}
use Rattle.std.specs.Option.{option_map}
use Rattle.tree_fs.specs.Spot.{spot_of}
use Rattle.tree_fs.specs.Places.{folder_above}
use Rattle.intent_journal.proofs.ReadyFolders.{no_folder_above, on_copy}
use Rattle.intent_journal.proofs.parents.parent_of.Goals as goal

pub returns-in-None : goal.returns-in-None
returns-in-None c =
    let above : None ≡ folder_above (spot_of c.args.place.now) = subst (λ o. option_map spot_of o ≡ folder_above (spot_of c.args.place.now)) c.in-None.is c.in_ok-above.ensures in
    on_copy c.copy.result c.args.place.now c.copy.ensures (no_folder_above (spot_of c.args.place.now) above)
