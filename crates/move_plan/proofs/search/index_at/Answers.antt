use Rattle.std.proofs.Common.{◌∙◌, rules, of_calls}
use Rattle.std.specs.Option.{option_map}
use Rattle.std.specs.Ordering.{nat_cmp}
use Rattle.std.specs.Cmp.Lexicographic.{slice_cmp}
use Rattle.std.proofs.lemmas.Fn.{always_returns_same}
use Rattle.tree_fs.specs.Texts.{place_text}
use Rattle.move_plan.specs.Tests.{text_at}
use Rattle.move_plan.proofs.Searching.{search-position}
use Rattle.move_plan.proofs.search.index_at.Goals as goal

pub returns : goal.returns
returns g c =
    let text = text_at c.args.root (option_map (λ p. p.now) c.args.path) in
    let found = c.binary_search_by.ensures.position (λ x. slice_cmp nat_cmp (place_text (g.T.Keyed.key x)) text) (always_returns_same _ _ _ (λ a r f k. search (rules, of_calls))) in
    c.ok.ensures.value
    ∙ search-position g.T.Keyed.key text c.args.items.now c.requires c.binary_search_by.result c.binary_search_by.ensures.bound found
