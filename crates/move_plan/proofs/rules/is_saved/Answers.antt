use Rattle.std.proofs.Common.{◌∙◌, ap, sym}
use Rattle.tree_fs.specs.declared.place.Place.{Place}
use Rattle.tree_fs.specs.Texts.{place_text}
use Rattle.move_plan.specs.Tests.{has_text}
use Rattle.move_plan.proofs.Searching.{found-answer, none-answer}
use Rattle.move_plan.proofs.rules.is_saved.Goals as goal

pub returns-in-None : goal.returns-in-None
returns-in-None c =
    none-answer (λ (s : Place × Place). s.1) (λ s. has_text (place_text c.args.from.now) s.0) (place_text c.args.to.now) c.args.plan.now.saves c.as_slice-saves.result.now c.as_slice-saves.ensures c.in-None.ensures

pub returns-in-Some : goal.returns-in-Some
returns-in-Some c =
    found-answer (λ (s : Place × Place). s.1) (λ s. has_text (place_text c.args.from.now) s.0) (place_text c.args.to.now) c.args.plan.now.saves c.as_slice-saves.result.now c.as_slice-saves.ensures c.requires.saves c.in-Some.at c.index-saves-at.result c.in-Some.ensures c.index-saves-at.is c.eq.result (c.eq.ensures ∙ ap (λ (s : Place × Place). has_text (place_text c.args.from.now) s.0) (sym c.index-saves-at.is))
