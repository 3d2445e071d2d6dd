use Rattle.std.proofs.Common.{ℕ, rules}
use Rattle.std.specs.Ordering.{is_lt}
use Rattle.std.proofs.lemmas.List.Sorted.{answers_always}
use Rattle.mod_rules.specs.Edges.{edge_cmp}
use Rattle.mod_rules.proofs.Ascending.{ascending_when}
use Rattle.mod_rules.proofs.graph.are_ascending.Goals as goal

pub returns : goal.returns
returns c =
    ascending_when c.args.edges.now c.is_sorted_by.result
    (c.is_sorted_by.ensures.cases (λ (e f : ℕ × ℕ). is_lt (edge_cmp e f)) (answers_always _ _ _ (λ f a r f' k. search rules)))
