use Rattle.std.proofs.Common.{◌≡◌, ◌++◌, ◌∷◌, [], refl, sym, ap, ◌∙◌, subst, arith, true≢false}
use Rattle.winner_table.specs.Winners.{paths_of}
use Rattle.winner_table.specs.Folders.{IsFirstNotBelow}
use Rattle.winner_table.proofs.Below.{content, none_below, one_below, first_below}
use Rattle.winner_table.proofs.Reading.{paths_from, paths_past}
use Rattle.winner_table.proofs.folders.is_folder.Goals as goal

pub returns-in-None : goal.returns-in-None
returns-in-None c =
    let paths = paths_of c.args.rows.now in
    let text = c.as_str.ensures.value ∙ c.in_ok-text.ensures.ok ∙ ap (λ t. t ++ 47 ∷ []) c.text.ensures.same in
    let first = subst (λ t. IsFirstNotBelow t paths c.first_from.result) text c.first_from.ensures in (
      λ t. absurd (true≢false (sym t)),
      λ is. absurd (none_below paths c.args.path.now c.first_from.result c.requires first (paths_past c.args.rows.now c.first_from.result (omega (arith, c.in-None.ensures.lookup.3))) is),
    )

pub returns : goal.returns
returns c =
    let paths = paths_of c.args.rows.now in
    let row = c.in-Some.row.now in
    let text = c.as_str.ensures.value ∙ c.in_ok-text.ensures.ok ∙ ap (λ t. t ++ 47 ∷ []) c.text.ensures.same in
    let first = subst (λ t. IsFirstNotBelow t paths c.first_from.result) text c.first_from.ensures in
    let at = paths_from c.args.rows.now c.first_from.result row c.in-Some.ensures.lookup.3.0 c.in-Some.ensures.lookup.1 in (
      λ t. one_below paths c.args.path.now c.first_from.result c.requires first row.path _ at (sym c.starts_with.ensures ∙ t),
      λ is. c.starts_with.ensures ∙ first_below paths c.args.path.now c.first_from.result c.requires first row.path _ at is,
    )
