use Rattle.std.proofs.Common.{◌∙◌, ap}
use Rattle.rel_paths.specs.Names.{names_of}
use Rattle.rel_paths.proofs.OneName.{names_of-id}
use Rattle.tree_fs.specs.declared.place.Root.TheVariants.{Stage}
use Rattle.tree_fs.proofs.place.Place.mod_folder.Goals as goal

pub returns : goal.returns
returns c = λ i. record { root = Stage; names = (ap names_of c.in_ok-id_path.ensures.same ∙ names_of-id c.args.id.now c.id_path.ensures.good) i }
