use Rattle.std.proofs.Common.{subst, ◌∙◌, ap}
use Rattle.fault_count.specs.Causes.{Explains}
use Rattle.rel_paths.specs.declared.error.PathError.TheVariants.{Memory}
use Rattle.rel_paths.specs.Names.{path_fault, user_limits}
use Rattle.rel_paths.proofs.OneName.{IsUserPath-id}
use Rattle.tree_fs.proofs.place.id_path.Goals as goal

pub only_memory-requires : goal.only_memory-requires
only_memory-requires c =
    let text = c.text.result.now in
    subst (λ o. Explains Memory o c.in-Err.fault) (ap (path_fault user_limits) c.text.ensures.same ∙ IsUserPath-id c.args.id.now c.text.ensures.good) c.in-Err.ensures.err
