use Rattle.std.proofs.Common.{ap, sym, ◌∙◌}
use Rattle.tree_fs.specs.Spot.{spot_of}
use Rattle.tree_fs.specs.Places.{folder_above}
use Rattle.tree_fs.proofs.Parses.{folder_above-path}
use Rattle.tree_fs.proofs.place.Place.parent.Goals as goal

pub returns-in_ok-parent-in-Some : goal.returns-in_ok-parent-in-Some
returns-in_ok-parent-in-Some c =
    folder_above-path c.args.self.now.root c.in-Some.path c.in_ok-parent-in-Some.field-0 c.in_ok-parent-in-Some.ensures ∙ ap (λ r. folder_above (spot_of (record { root = c.args.self.now.root; rel = r }))) (sym c.in-Some.is)
