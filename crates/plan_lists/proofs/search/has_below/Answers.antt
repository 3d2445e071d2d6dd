use Rattle.std.proofs.Common.{◌≡◌, ◌++◌, ◌∷◌, [], sym, ap, ◌∙◌, subst, arith, true≢false, map}
use Rattle.std.specs.List.{starts_with}
use Rattle.std.specs.Str.{bytes_eq}
use Rattle.rel_paths.specs.Names.{names_of}
use Rattle.winner_table.specs.Folders.{IsFirstNotBelow}
use Rattle.winner_table.proofs.Below.{none_below, one_below, first_below}
use Rattle.plan_lists.proofs.Searched.{keys_from, keys_past}
use Rattle.plan_lists.proofs.search.has_below.Goals as goal

pub returns-in-None : goal.returns-in-None
returns-in-None g c =
    let key = g.T.Pathed.path in
    let paths = map key c.args.items.now in
    let text = c.as_str.ensures.value ∙ c.in_ok-text.ensures.ok ∙ ap (λ t. t ++ 47 ∷ []) c.text.ensures.same in
    let first = subst (λ t. IsFirstNotBelow t paths c.first_from.result) text c.first_from.ensures in (
      λ t. absurd (true≢false (sym t)),
      λ is. absurd (none_below paths c.args.path.now c.first_from.result c.requires first (keys_past key c.args.items.now c.first_from.result (omega (arith, c.in-None.ensures.lookup.3))) is),
    )

pub returns : goal.returns
returns g c =
    let key = g.T.Pathed.path in
    let paths = map key c.args.items.now in
    let item = c.in-Some.item.now in
    let text = c.as_str.ensures.value ∙ c.in_ok-text.ensures.ok ∙ ap (λ t. t ++ 47 ∷ []) c.text.ensures.same in
    let first = subst (λ t. IsFirstNotBelow t paths c.first_from.result) text c.first_from.ensures in
    let begins : starts_with bytes_eq (names_of (key item)) (names_of c.args.path.now) ≡ c.starts_with.result = sym (c.starts_with.ensures ∙ ap (λ p. starts_with bytes_eq (names_of p) (names_of c.args.path.now)) c.path.ensures) in
    let at = keys_from key c.args.items.now c.first_from.result item c.in-Some.ensures.lookup.3.0 c.in-Some.ensures.lookup.1 in (
      λ t. one_below paths c.args.path.now c.first_from.result c.requires first (key item) _ at (begins ∙ t),
      λ is. sym begins ∙ first_below paths c.args.path.now c.first_from.result c.requires first (key item) _ at is,
    )
