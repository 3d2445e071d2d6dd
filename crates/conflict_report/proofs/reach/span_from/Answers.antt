use Rattle.std.proofs.Common.{ℕ, ltb, leb, rules, sym}
use Rattle.std.proofs.lemmas.List.Sorted.{IsPartitionPoint-from_clause, IsPartitionedBy-leb, IsPartitionedBy-ltb}
use Rattle.load_order.proofs.Froms.{firsts_ascend, no_turn, from_node}
use Rattle.conflict_report.proofs.reach.span_from.Goals as goal

pub returns-clause-ordered : goal.returns-clause-ordered
returns-clause-ordered c =
    let es = c.args.edges.now in
    let node = c.args.node in
    let s = IsPartitionPoint-from_clause (λ (e : ℕ × ℕ). ltb e.0 node) _ _ c.partition_point-start.ensures.partitioned (IsPartitionedBy-ltb (λ (e : ℕ × ℕ). e.0) es node (firsts_ascend es c.requires)) (λ a r q k. search rules) in
    let t = IsPartitionPoint-from_clause (λ (e : ℕ × ℕ). leb e.0 node) _ _ c.partition_point-end.ensures.partitioned (IsPartitionedBy-leb (λ (e : ℕ × ℕ). e.0) es node (firsts_ascend es c.requires)) (λ a r q k. search rules) in
    no_turn es node _ _ c.partition_point-start.ensures.bound s t

pub returns-clause-part : goal.returns-clause-part
returns-clause-part c =
    let es = c.args.edges.now in
    let node = c.args.node in
    let s = IsPartitionPoint-from_clause (λ (e : ℕ × ℕ). ltb e.0 node) _ _ c.partition_point-start.ensures.partitioned (IsPartitionedBy-ltb (λ (e : ℕ × ℕ). e.0) es node (firsts_ascend es c.requires)) (λ a r q k. search rules) in
    let t = IsPartitionPoint-from_clause (λ (e : ℕ × ℕ). leb e.0 node) _ _ c.partition_point-end.ensures.partitioned (IsPartitionedBy-leb (λ (e : ℕ × ℕ). e.0) es node (firsts_ascend es c.requires)) (λ a r q k. search rules) in
    sym (from_node es node _ _ c.partition_point-start.ensures.bound c.partition_point-end.ensures.bound s t)
