use Rattle.std.proofs.Common.{◌||◌, ◌++◌, ◌∷◌, [], take, ap, sym, ◌∙◌}
use Rattle.std.proofs.lemmas.List.{take_more}
use Rattle.std.specs.BTreeSet.{contains}
use Rattle.std.specs.List.{list_any, filter_map}
use Rattle.mod_rules.specs.Edges.{edge_cmp}
use Rattle.mod_rules.specs.Pairs.{rule_pair, is_edge}
use Rattle.mod_rules.proofs.Steps.{edge_added, no_edge_added}
use Rattle.mod_rules.proofs.edges.add_edges.Goals as goal
use Rattle.mod_rules.proofs.edges.add_edges.Goals.{in-Some+in_ok-insert, in_default}

pub loop-rule-preserved : goal.loop-rule-preserved
loop-rule-preserved c = λ q.
    let f = rule_pair c.args.mods.now.entries c.args.node in
    let rules = c.args.rules.now in
    let i = c.loop-rule.rule-index in
    let old = contains edge_cmp c.args.edges.now q in
    let more = take_more rules i c.rule-item.result c.loop-rule-test.true ∙ ap (λ r. take i rules ++ r ∷ []) (sym c.rule-item.is) in
    let whole = ap (λ l. old || list_any (λ e. is_edge e q) (filter_map f l)) (sym more) in
    elim c.match-edge_of.branch [
      | in-Some+in_ok-insert w ↦
          ap (λ s. contains edge_cmp s q) w.edges-is
          ∙ edge_added f (take i rules) c.rule-item.result w.in-Some.edge q (contains edge_cmp c.loop-rule.edges q) old (contains edge_cmp w.insert.new.self q)
          (sym c.edge_of.ensures ∙ w.in-Some.is) (w.in_ok-insert.ensures.updates.0 q) (c.loop-rule.invariant q)
          ∙ whole
      | in_default w ↦
          ap (λ s. contains edge_cmp s q) w.edges-is
          ∙ no_edge_added f (take i rules) c.rule-item.result q (contains edge_cmp c.loop-rule.edges q) old (sym c.edge_of.ensures ∙ w.in_default.is) (c.loop-rule.invariant q)
          ∙ whole
    ]
