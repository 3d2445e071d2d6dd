use Rattle.std.proofs.Common.{◌∷◌, [], ◌↔◌, ◌||◌, ℕ, Contains, map, ap, sym, subst, ◌∙◌, length}
use Rattle.std.specs.BTreeSet.{contains}
use Rattle.std.specs.List.{list_any, filter_map}
use Rattle.std.specs.Map.Iter.{deref_pair}
use Rattle.std.proofs.lemmas.List.{map-append}
use Rattle.mod_rules.specs.Nodes.{enabled_of}
use Rattle.mod_rules.specs.Edges.{IsEdge, AreWithin, edge_cmp}
use Rattle.mod_rules.specs.Pairs.{rule_pair, pairs_of, is_edge}
use Rattle.list_laws.proofs.Lists.{seen_more, taken_all}
use Rattle.mod_rules.proofs.Steps.{counted_on}
use Rattle.mod_rules.proofs.Found.{found_more, edges_are, edges_within}
use Rattle.mod_rules.proofs.edges.graph_of.Goals as goal

pub loop-entry-preserved-then-is_enabled : goal.loop-entry-preserved-then-is_enabled
loop-entry-preserved-then-is_enabled c =
    let at = c.loop-entry in
    let mods = c.mods-mods.result.now.entries in
    let on = sym c.is_enabled.ensures ∙ c.if-is_enabled.true in
    let more = map-append deref_pair at.yielded ((c.in-Some.field-0-0, c.in-Some.entry) ∷ []) in
    record {
      taken = seen_more deref_pair at.yielded (c.in-Some.field-0-0, c.in-Some.entry) c.next.new.self at.entry-iterator mods c.in-Some.ensures.steps at.invariant.taken;
      count_is = counted_on (map deref_pair at.yielded) _ _ at.count more on at.invariant.count_is;
      found = λ q.
          let rules = ap (λ l. contains edge_cmp at.edges q || list_any (λ e. is_edge e q) (filter_map (rule_pair mods at.count) l)) c.rules.ensures in
          found_more mods (map deref_pair at.yielded) (c.in-Some.field-0-0.now, c.in-Some.entry.now) _ at.count q (contains edge_cmp at.edges q) _ more on at.invariant.count_is (c.in_ok-add_edges.ensures q ∙ rules) (at.invariant.found q);
    }

pub invariant_of-result : goal.invariant_of-result
invariant_of-result c =
    let at = c.loop-entry in
    let mods = c.mods-mods.result.now.entries in
    let all = taken_all (map deref_pair at.yielded) at.entry-iterator mods c.in-None.ensures.steps.0 at.invariant.taken in
    let are = edges_are mods at.edges.keys c.into_iter-entry-iterator.ensures.into_iter_gives.4 (λ q. at.invariant.found q ∙ ap (λ l. list_any (λ e. is_edge e q) (pairs_of mods 0 (enabled_of l))) all) in
    let within : AreWithin (length (enabled_of mods)) at.edges.keys = edges_within (enabled_of mods) at.edges.keys are in
    let counted = at.invariant.count_is ∙ ap (λ l. length (enabled_of l)) all in
    (c.in_ok-edges.ensures.ascending, subst (λ n. AreWithin n c.in_ok-edges.edges.items) (sym counted) (subst (λ l. AreWithin (length (enabled_of mods)) l) (sym c.in_ok-edges.ensures.items) within))

pub returns-clause-edges : goal.returns-clause-edges
returns-clause-edges c =
    let at = c.loop-entry in
    let mods = c.mods-mods.result.now.entries in
    let all = taken_all (map deref_pair at.yielded) at.entry-iterator mods c.in-None.ensures.steps.0 at.invariant.taken in
    let are = edges_are mods at.edges.keys c.into_iter-entry-iterator.ensures.into_iter_gives.4 (λ q. at.invariant.found q ∙ ap (λ l. list_any (λ e. is_edge e q) (pairs_of mods 0 (enabled_of l))) all) in
    subst (λ ms. (a b : ℕ) → Contains c.in_ok-edges.edges.items (a, b) ↔ IsEdge (enabled_of ms) a b) c.mods-mods.ensures
    (subst (λ l. (a b : ℕ) → Contains l (a, b) ↔ IsEdge (enabled_of mods) a b) (sym c.in_ok-edges.ensures.items) are)
