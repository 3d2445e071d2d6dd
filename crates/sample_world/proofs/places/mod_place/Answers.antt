use Rattle.std.proofs.Common.{◌≡◌, ◌∷◌, ap, ◌∙◌}
use Rattle.std.proofs.lemmas.Result.{IfOk-weaker}
use Rattle.rel_paths.specs.Names.{names_of}
use Rattle.tree_fs.specs.declared.place.Place.{Place}
use Rattle.tree_fs.specs.declared.place.Root.TheVariants.{Stage}
use Rattle.tree_fs.specs.Places.{staged_spot}
use Rattle.tree_fs.specs.Spot.{spot_of}
use Rattle.sample_world.specs.Files.{mod_file}
use Rattle.sample_world.proofs.Naming.{names_of-file_path}
use Rattle.sample_world.proofs.places.mod_place.Goals as goal

pub returns : goal.returns
returns c =
    IfOk-weaker c.staged.result (λ (place : Place). spot_of place ≡ staged_spot c.in_ok-id.id c.in_ok-path.path) (λ place. spot_of place ≡ (mod_file c.args.mod_index c.args.file_index).at)
    (λ place is. is ∙ λ i. record { root = Stage; names = c.in_ok-id.ensures i ∷ (ap names_of c.in_ok-path.ensures.same ∙ names_of-file_path c.args.file_index) i }) c.staged.ensures
