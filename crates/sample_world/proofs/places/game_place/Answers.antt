use Rattle.std.proofs.Common.{◌≡◌, ap, ◌∙◌}
use Rattle.std.proofs.lemmas.Result.{IfOk-weaker}
use Rattle.rel_paths.specs.Names.{names_of}
use Rattle.tree_fs.specs.declared.place.Place.{Place}
use Rattle.tree_fs.specs.declared.place.Root.TheVariants.{Game}
use Rattle.tree_fs.specs.Places.{game_spot}
use Rattle.tree_fs.specs.Spot.{spot_of}
use Rattle.sample_world.specs.Files.{game_file}
use Rattle.sample_world.proofs.Naming.{names_of-file_path}
use Rattle.sample_world.proofs.places.game_place.Goals as goal

pub returns : goal.returns
returns c =
    IfOk-weaker c.game.result (λ (place : Place). spot_of place ≡ game_spot c.in_ok-path.path) (λ place. spot_of place ≡ (game_file c.args.file_index).at)
    (λ place is. is ∙ λ i. record { root = Game; names = (ap names_of c.in_ok-path.ensures.same ∙ names_of-file_path c.args.file_index) i }) c.game.ensures
