use Rattle.std.proofs.Common.{refl, subst, codes}
use Rattle.fault_count.specs.Causes.{Explains}
use Rattle.rel_paths.specs.declared.error.PathError.TheVariants.{Memory}
use Rattle.rel_paths.proofs.OneName.{IsUserPath-name}
use Rattle.change_settle.proofs.aside.aside_folder.Goals as goal

pub only_memory-requires : goal.only_memory-requires
only_memory-requires c =
    subst (λ o. Explains Memory o c.in-Err.fault) (IsUserPath-name (codes "aside") refl) c.in-Err.ensures.err
