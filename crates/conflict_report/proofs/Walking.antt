-- Walks along edges, step by step.
use Rattle.std.proofs.Common.{◌≡◌, ◌<◌, ◌⊎◌, inl, inr, ℕ, List, [], ◌∷◌, ◌++◌, refl, subst}
use Rattle.std.specs.List.{Contains}
use Rattle.mod_rules.specs.Edges.{GraphData, AreWithin}
use Rattle.load_order.specs.Cycles.{IsAlongEdges}
use Rattle.conflict_report.specs.Leading.{Leads}

pub leads_edge : (g : GraphData) (a b : ℕ) → Contains g.edges (a, b) → Leads g a b
leads_edge g a b e = record { between = []; along = (e, tt) }

pub leads_on : (g : GraphData) (a b c : ℕ) → Contains g.edges (a, b) → Leads g b c → Leads g a c
leads_on g a b c e w = record { between = b ∷ w.between; along = (e, w.along) }

-- the first step of a walk, and the rest of it
pub record FirstStep (g : GraphData) (a c : ℕ) : Type 0 where
  pub next : ℕ
  pub edge : Contains g.edges (a, next)
  pub rest : (c ≡ next) ⊎ Leads g next c

pub first_step : (g : GraphData) (a c : ℕ) → Leads g a c → FirstStep g a c
first_step g a c w = by w.between w.along
  where
    by : (between : List ℕ) → IsAlongEdges g a (between ++ c ∷ []) → FirstStep g a c
    by [] along = record { next = c; edge = along.0; rest = inl refl }
    by (b ∷ bs) along = record { next = b; edge = along.0; rest = inr (record { between = bs; along = along.1 }) }

edge_within : (g : GraphData) → AreWithin g.count g.edges → (a b : ℕ) → Contains g.edges (a, b) → (a < g.count) × (b < g.count)
edge_within g within a b e = subst (λ (x : ℕ × ℕ). (x.0 < g.count) × (x.1 < g.count)) e.2 (within e.0 (a, b) e.1)

-- both ends of a walk are nodes of the graph
pub leads_within : (g : GraphData) → AreWithin g.count g.edges → (a b : ℕ) → Leads g a b → (a < g.count) × (b < g.count)
leads_within g within a b w = by a w.between w.along
  where
    by : (a : ℕ) (between : List ℕ) → IsAlongEdges g a (between ++ b ∷ []) → (a < g.count) × (b < g.count)
    by a [] along = edge_within g within a b along.0
    by a (x ∷ xs) along = ((edge_within g within a x along.0).0, (by x xs along.1).1)
