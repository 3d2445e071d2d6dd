use Rattle.std.proofs.Common.{ap, ◌∙◌, subst}
use Rattle.tree_fs.specs.Story.{disk_of}
use Rattle.stage_scan.specs.Files.{HasSamePaths}
use Rattle.command_steps.specs.Mods.{mod_names}
use Rattle.command_steps.proofs.ModsFound.{lists_mods}
use Rattle.command_steps.proofs.mods.staged_mods.Goals as goal

pub returns-clause-answer : goal.returns-clause-answer
returns-clause-answer g c = λ told.
    let d = disk_of (g.T.Tree.story c.args.tree.now) in
    let names = c.in_ok-ids.ensures ∙ ap mod_names c.deref.ensures.value in
    lists_mods d _ (c.in_ok-entries.ensures.answer told) _ c.in_ok-in_order.ensures.order (subst (λ l. HasSamePaths l c.in_ok-in_order.field-0.items) names c.in_ok-in_order.ensures.same)
