use Rattle.backup_keep.specs.Places.{in_game}
use Rattle.change_settle.proofs.lists.found_aside.Goals as goal

pub aside_place-requires : goal.aside_place-requires
aside_place-requires c = in_game c.args.row.now.path c.requires.path.0 c.in_ok-place.ensures
