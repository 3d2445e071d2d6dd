use Rattle.std.proofs.Common.{◌||◌, ◌∙◌, sym, ap, get_or, false, arith}
use Rattle.std.proofs.lemmas.List.{get_or-replicate}
use Rattle.move_plan.specs.Tests.{is_from}
use Rattle.move_plan.proofs.Earlier.{is_source-more}
use Rattle.move_plan.proofs.marks.source_marks.Goals as goal

pub loop-row-init : goal.loop-row-init
loop-row-init c = λ k d within. get_or-replicate 4096 k false false (omega (arith, within, c.requires.most))

pub loop-row-preserved : goal.loop-row-preserved
loop-row-preserved c k d within =
    c.mark_source.ensures k d within
    ∙ ap (λ b. b || is_from (get_or c.args.clears.now k d) c.row-item.result) (c.loop-row.invariant k d within)
    ∙ sym (is_source-more c.args.sets.now c.loop-row.row-index c.row-item.result (get_or c.args.clears.now k d) c.loop-row-test.true c.row-item.is)
