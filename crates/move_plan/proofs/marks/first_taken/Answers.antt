use Rattle.std.proofs.Common.{◌∙◌}
use Rattle.tree_fs.specs.declared.place.Place.{Place}
use Rattle.move_plan.specs.declared.plan.SetRow.{SetRow}
use Rattle.move_plan.specs.Tests.{has_key, is_source}
use Rattle.move_plan.specs.Rising.{earlier}
use Rattle.move_plan.proofs.Earlier.{earlier-position}
use Rattle.move_plan.proofs.marks.first_taken.Goals as goal

pub returns : goal.returns
returns c =
    c.earlier.ensures ∙ (λ i. earlier (c.first_set.ensures i) (c.first_source.ensures i))
    ∙ earlier-position (λ (s : Place × Place). has_key (λ (row : SetRow). row.to) c.args.sets.now s.1) (λ s. is_source c.args.sets.now s.1) c.args.saves.now
