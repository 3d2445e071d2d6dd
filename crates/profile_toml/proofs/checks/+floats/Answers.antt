use Rattle.std.proofs.Common.{◌≡◌, false, refl, get_or, ◌∷◌, sym, ◌∙◌, arith}
use Rattle.std.proofs.lemmas.Grind.{common_steps}
use Rattle.profile_toml.specs.Floats.{has_float}
use Rattle.toml.specs.View.{view}
use Rattle.toml.proofs.Views.{Entry, items_view-drop}
use Rattle.profile_toml.proofs.checks.+floats.Goals as goal

pub array_has_float-loop-item-preserved : goal.array_has_float-loop-item-preserved
array_has_float-loop-item-preserved c c' =
    let xs = c'.deref-item-items.result.now in
    let i = c'.loop-item.item-index in
    let item = c'.item-item.result in
    let none : has_float (view item) ≡ false = grind (arith, common_steps) in
    let at : get_or xs i item ≡ item = grind (arith, common_steps) in
    sym (rw (items_view-drop xs i item c'.loop-item-test.true, at, none) refl) ∙ c'.loop-item.invariant
