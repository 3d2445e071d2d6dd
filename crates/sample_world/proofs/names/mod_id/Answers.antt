use Rattle.std.proofs.Common.{◌≡◌, ◌++◌, ap, ◌∙◌, subst}
use Rattle.fault_count.specs.Causes.{Explains}
use Rattle.rel_paths.specs.declared.error.PathError.TheVariants.{Memory}
use Rattle.rel_paths.specs.Names.{id_fault}
use Rattle.sample_world.specs.Texts.{padded, mod_id}
use Rattle.sample_world.proofs.Naming.{IsModId-mod_id}
use Rattle.sample_world.proofs.names.mod_id.Goals as goal

pub returns-in-Ok : goal.returns-in-Ok
unfolding mod_id
returns-in-Ok c =
    c.in-Ok.ensures.same ∙ c.as_str.ensures.value ∙ c.in_ok-push_padded.ensures ∙ ap (λ l. l ++ padded 3 c.args.index) c.in_ok-text.ensures.ok

pub only_memory-requires : goal.only_memory-requires
unfolding mod_id
only_memory-requires c =
    let text : c.as_str.result.now ≡ mod_id c.args.index = c.as_str.ensures.value ∙ c.in_ok-push_padded.ensures ∙ ap (λ l. l ++ padded 3 c.args.index) c.in_ok-text.ensures.ok in
    subst (λ o. Explains Memory o c.in-Err.fault) (ap id_fault text ∙ IsModId-mod_id c.args.index) c.in-Err.ensures.err
