use Rattle.std.proofs.Common.{rules, of_calls, List, ℕ}
use Rattle.std.specs.Ordering.{nat_cmp}
use Rattle.std.specs.Cmp.Lexicographic.{slice_cmp}
use Rattle.std.proofs.lemmas.Fn.{always_returns_same}
use Rattle.plan_lists.proofs.Searched.{falling_searched}
use Rattle.plan_lists.proofs.search.has_text_falling.Goals as goal

pub returns : goal.returns
returns c =
    let s = c.args.text.now in
    let found = c.binary_search_by.ensures.position (λ (x : List ℕ). slice_cmp nat_cmp s x) (always_returns_same _ _ _ (λ a r f k. search (rules, of_calls))) in
    falling_searched c.args.paths.now c.requires s c.binary_search_by.result c.binary_search_by.ensures.bound found c.is_ok.result c.is_ok.ensures.value
