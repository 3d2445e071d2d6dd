use Rattle.tree_fs.specs.Texts.{place_text}
use Rattle.move_plan.specs.declared.plan.SetRow.{SetRow}
use Rattle.move_plan.specs.Tests.{is_back_of}
use Rattle.move_plan.proofs.Searching.{found-answer, none-answer}
use Rattle.move_plan.proofs.rules.save_is_back.Goals as goal

pub returns-in-None : goal.returns-in-None
returns-in-None c =
    none-answer (λ (row : SetRow). row.to) (is_back_of c.args.saved.now.1) (place_text c.args.saved.now.0) c.args.plan.now.sets c.as_slice-sets.result.now c.as_slice-sets.ensures c.in-None.ensures

pub returns-in-Some : goal.returns-in-Some
returns-in-Some c =
    found-answer (λ (row : SetRow). row.to) (is_back_of c.args.saved.now.1) (place_text c.args.saved.now.0) c.args.plan.now.sets c.as_slice-sets.result.now c.as_slice-sets.ensures c.requires.sets c.in-Some.at c.index-sets-at.result c.in-Some.ensures c.index-sets-at.is c.is_back_of.result c.is_back_of.ensures
