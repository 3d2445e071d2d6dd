use Rattle.std.proofs.Common.{◌≡◌, ◌||◌, ℕ, take}
use Rattle.std.specs.BTreeSet.{contains}
use Rattle.std.specs.List.{list_any, filter_map}
use Rattle.mod_rules.specs.Edges.{edge_cmp}
use Rattle.mod_rules.specs.Pairs.{rule_pair, is_edge}
use Rattle.mod_rules.proofs.edges.add_edges.Given as goal

abbrev pub invariant-loop-rule : goal.invariant-loop-rule
invariant-loop-rule l =
    (q : ℕ × ℕ) → contains edge_cmp l.edges q ≡ (contains edge_cmp l.initial.edges q || list_any (λ e. is_edge e q) (filter_map (rule_pair l.mods.entries l.node) (take l.rule-index l.rules)))
