use Rattle.std.proofs.Common.{rules, of_calls}
use Rattle.std.specs.Ordering.{nat_cmp}
use Rattle.std.specs.Cmp.Lexicographic.{slice_cmp}
use Rattle.std.proofs.lemmas.Fn.{always_returns_same}
use Rattle.plan_lists.proofs.Searched.{text_searched}
use Rattle.plan_lists.proofs.search.has_text.Goals as goal

pub returns : goal.returns
returns g c =
    let key = g.T.Pathed.path in
    let s = c.args.text.now in
    let found = c.binary_search_by.ensures.position (λ x. slice_cmp nat_cmp (key x) s) (always_returns_same _ _ _ (λ a r f k. search (rules, of_calls))) in
    text_searched key c.args.items.now c.requires s c.binary_search_by.result c.binary_search_by.ensures.bound found c.is_ok.result c.is_ok.ensures.value
