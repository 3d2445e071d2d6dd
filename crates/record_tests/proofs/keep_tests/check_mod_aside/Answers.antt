use Rattle.std.proofs.Common.{◌≡◌, rules}
use Rattle.rel_paths.specs.Names.{IsUserPath, IsModId}
use Rattle.tree_fs.specs.Spot.{spot_of}
use Rattle.tree_fs.specs.Places.{staged_spot}
use Rattle.backup_keep.specs.Places.{in_mod}
use Rattle.record_tests.proofs.keep_tests.check_mod_aside.Goals as goal

pub aside_place-requires : goal.aside_place-requires
aside_place-requires g c =
    let at : spot_of c.expect-at.result ≡ staged_spot c.expect-id.result c.expect-path.result = search rules in
    let good : IsModId c.expect-id.result = search rules in
    let user : IsUserPath c.expect-path.result = search rules in
    in_mod c.expect-id.result c.expect-path.result good user at
