use Rattle.std.proofs.Common.{◌≡◌, ap, sym, ◌∙◌, subst, rules}
use Rattle.fault_count.specs.Causes.{Explains}
use Rattle.rel_paths.specs.declared.error.PathError.TheVariants.{Memory}
use Rattle.rel_paths.specs.Names.{names_of, path_fault, held_limits}
use Rattle.tree_fs.specs.declared.place.Root.TheVariants.{Keep}
use Rattle.backup_keep.proofs.Asided.{text_of_aside, held_place, aside_place-spot}
use Rattle.backup_keep.proofs.places.aside_place.Goals as goal

pub returns-in-Ok : goal.returns-in-Ok
returns-in-Ok c =
    let text : c.deref.result.now ≡ text_of_aside c.args.number c.args.at.now = search rules in
    let names = ap names_of (c.in-Ok.ensures.same ∙ text) ∙ aside_place-spot c.args.number c.args.at.now c.ranges.number.fits c.requires in
    λ i. record { root = Keep; names = names i }

pub only_memory-requires : goal.only_memory-requires
only_memory-requires c =
    let text : c.deref.result.now ≡ text_of_aside c.args.number c.args.at.now = search rules in
    subst (λ o. Explains Memory o c.in-Err.fault)
    (ap (path_fault held_limits) text ∙ held_place c.args.number c.args.at.now c.ranges.number.fits c.requires) c.in-Err.ensures.err
