use Rattle.std.proofs.Common.{◌∷◌, [], true, ap, ◌∙◌}
use Rattle.tree_fs.specs.declared.op.Op.TheVariants.{Create, Fill}
use Rattle.tree_fs.specs.Story.{Story, with_ops}
use Rattle.tree_mem.proofs.Told.{file_told}
use Rattle.tree_mem.proofs.calls.MemTreeTree.put_new.Goals as goal

pub returns-clause-adds : goal.returns-clause-adds
returns-clause-adds c =
    let at = c.args.at.now in
    let bytes = c.args.bytes.now in
    file_told at bytes _ _ c.answer-2.result
    (c.answer-2.ensures.story ∙ c.in_ok-put_file.ensures.ok ∙ ap (λ (s : Story). with_ops s (Create at true ∷ Fill at bytes true ∷ [])) c.next_failure-failure.ensures.story)
