use Rattle.backup_keep.specs.Places.{in_mod}
use Rattle.change_settle.proofs.lists.staged_aside.Goals as goal

pub aside_place-requires : goal.aside_place-requires
aside_place-requires c = in_mod c.args.row.now.mod_id c.args.row.now.source c.requires.mod_id c.requires.source.0 c.in_ok-place.ensures
