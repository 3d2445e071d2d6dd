-- The load order, or the cycle that keeps it from being made, as a step.
use Rattle.std.proofs.Common.{◌≡◌, ◌⊎◌, ℕ, ◌<◌, List, [], ◌∷◌, ◌++◌, map, length, refl, sym, ap, ◌∙◌, subst, inl, inr}
use Rattle.std.specs.List.{AllByRecursion}
use Rattle.std.specs.declared.result.Result.TheVariants.{Ok}
use Rattle.std.proofs.lemmas.List.{length-map}
use Rattle.std.proofs.lemmas.List.Elements.{All-contains}
use Rattle.tree_fs.specs.Story.{Story, disk_of}
use Rattle.list_laws.proofs.Alls.{all_from_contains}
use Rattle.profile_toml.specs.Records.{ProfileData, ModData}
use Rattle.mod_rules.specs.Nodes.{nodes_of}
use Rattle.mod_rules.specs.Edges.{GraphData, AreWithin}
use Rattle.load_order.specs.Orders.{IsLawful}
use Rattle.load_order.specs.Cycles.{IsFound as IsCycle, IsAlongEdges, IsClosedWalk}
use Rattle.answer_lines.specs.Lists.{HasId, id_of}
use Rattle.answer_lines.specs.declared.refusal.Refusal.TheVariants as group
use Rattle.answer_lines.specs.declared.refusal.RuleRefusal.TheVariants.{Cycle}
use Rattle.command_steps.specs.declared.limits.Limits.{Limits}
use Rattle.command_steps.specs.declared.stop.Stop.{Stop}
use Rattle.command_steps.specs.declared.stop.Stop.TheVariants.{Refused, Memory}
use Rattle.command_steps.specs.Stops.{IsFault}
use Rattle.command_steps.specs.Profiles.{HasProfile, enabled_ids, IsGraphOf, IsOrderOf}
use Rattle.command_steps.specs.Steps.{order}
use Rattle.command_steps.specs.Orders.{IsWhy, Takes}

-- each node has an id
pub count_of_ids : (p : ProfileData) (ids : List (List ℕ)) → ids ≡ enabled_ids p → length ids ≡ length (nodes_of p)
count_of_ids p ids is = ap length is ∙ length-map (nodes_of p) (λ (m : List ℕ × ModData). m.0)

pub order_has_ids : (p : ProfileData) (g : GraphData) (ids : List (List ℕ)) (list : List ℕ) → ids ≡ enabled_ids p → IsGraphOf p g → IsLawful g list → AllByRecursion (HasId ids) list
order_has_ids p g ids list is graph lawful = all_from_contains (HasId ids) list (λ node there. subst (λ n. node < n) (graph.count ∙ sym (count_of_ids p ids is)) (lawful.only node there))

module _ (g : GraphData) (edges : AreWithin g.count g.edges) where
  along_within : (node : ℕ) (rest : List ℕ) (last : ℕ) → IsAlongEdges g node (rest ++ last ∷ []) → AllByRecursion (λ n. n < g.count) (node ∷ rest)
  along_within node [] last walk = ((All-contains (λ (e : ℕ × ℕ). (e.0 < g.count) × (e.1 < g.count)) g.edges (node, last) edges walk.0).0, tt)
  along_within node (x ∷ rest) last walk = ((All-contains (λ (e : ℕ × ℕ). (e.0 < g.count) × (e.1 < g.count)) g.edges (node, x) edges walk.0).0, along_within x rest last walk.1)

  pub cycle_has_ids : (ids : List (List ℕ)) (cycle : List ℕ) → g.count ≡ length ids → IsClosedWalk g cycle → AllByRecursion (HasId ids) cycle
  cycle_has_ids ids cycle count closed = subst (AllByRecursion (HasId ids)) (sym closed.is) (subst (λ n. AllByRecursion (λ k. k < n) (closed.first ∷ closed.rest)) count (along_within closed.first closed.rest closed.first closed.closed))

module _ (limits : Limits) (s : Story) (p : ProfileData) (has : HasProfile (disk_of s) p) (g : GraphData) (graph : IsGraphOf p g) where
  pub order_passes : {V : Type 0} (list : List ℕ) (G : V → Type 0) (v : V) → IsOrderOf g list → G v → Takes (order ∷ []) limits s s G (Ok v)
  order_passes list G v is gives = record { passed = record { all = ((p, has, g, graph, list, is), tt); story = refl; gives = gives }; stopped = tt }

  pub order_why : (ids : List (List ℕ)) (cycle : List ℕ) (stop : Stop) → ids ≡ enabled_ids p → ((list : List ℕ) → IsLawful g list → ⊥) → IsCycle g cycle → (stop ≡ Memory) ⊎ (stop ≡ Refused (group.Rules (Cycle (map (id_of ids) cycle))))
      → IsWhy (order ∷ []) limits s stop s
  order_why ids cycle stop same none found (inl memory) = record { why = inl (subst IsFault (sym memory) tt) }
  order_why ids cycle stop same none found (inr is) = record { why = inr (inl ((p, has, g, graph, none, cycle, found, is ∙ ap (λ l. Refused (group.Rules (Cycle (map (id_of l) cycle)))) same), refl)) }
