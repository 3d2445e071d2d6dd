use Rattle.std.proofs.Common.{sym, ◌∙◌}
use Rattle.tree_fs.specs.declared.place.Place.{Place}
use Rattle.move_plan.specs.Rising.{earlier}
use Rattle.move_plan.proofs.Earlier.{no_source, first_source-more}
use Rattle.move_plan.proofs.marks.first_source.Goals as goal

pub loop-row-init : goal.loop-row-init
loop-row-init c = sym (no_source (λ (s : Place × Place). s.1) c.args.saves.now c.args.sets.now)

pub loop-row-preserved : goal.loop-row-preserved
loop-row-preserved c =
    c.earlier-first.ensures ∙ (λ i. earlier (c.loop-row.invariant i) (c.saved_source.ensures i))
    ∙ first_source-more (λ (s : Place × Place). s.1) c.args.saves.now c.args.sets.now c.loop-row.row-index c.row-item.result c.loop-row-test.true c.row-item.is
