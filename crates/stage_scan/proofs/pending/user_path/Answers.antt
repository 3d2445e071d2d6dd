use Rattle.std.proofs.Common.{rules, ◌≢◌, refl, ap, ◌∙◌}
use Rattle.rel_paths.specs.declared.error.PathError.TheVariants.{Memory}
use Rattle.rel_paths.specs.Names.{names_of}
use Rattle.stage_scan.proofs.Names.{names_of-text, user_names, no_user}
use Rattle.stage_scan.proofs.pending.user_path.Goals as goal

pub returns-in-Ok : goal.returns-in-Ok
returns-in-Ok c =
    let names = ap names_of (c.in-Ok.ensures.same ∙ c.as_str.ensures.value ∙ c.in_ok-text.ensures.same) ∙ names_of-text c.args.above.now c.args.name.now c.in_ok-text.ensures.good in
    (names, c.in-Ok.ensures.user, user_names c.in-Ok.path _ names c.in-Ok.ensures.user)

pub returns : goal.returns
returns c =
    let names = ap names_of (c.as_str.ensures.value ∙ c.in_ok-text.ensures.same) ∙ names_of-text c.args.above.now c.args.name.now c.in_ok-text.ensures.good in
    let ne : c.in-Err.field-0 ≢ Memory = search rules in
    no_user c.as_str.result.now _ _ c.in-Err.field-0 names refl ne c.in-Err.ensures.err
