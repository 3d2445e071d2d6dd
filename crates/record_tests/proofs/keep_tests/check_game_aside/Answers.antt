use Rattle.std.proofs.Common.{◌≡◌, rules}
use Rattle.rel_paths.specs.Names.{IsUserPath}
use Rattle.tree_fs.specs.Spot.{spot_of}
use Rattle.tree_fs.specs.Places.{game_spot}
use Rattle.backup_keep.specs.Places.{in_game}
use Rattle.record_tests.proofs.keep_tests.check_game_aside.Goals as goal

pub aside_place-requires : goal.aside_place-requires
aside_place-requires g c =
    let at : spot_of c.expect-at.result ≡ game_spot c.expect-path.result = search rules in
    let user : IsUserPath c.expect-path.result = search rules in
    in_game c.expect-path.result user at
