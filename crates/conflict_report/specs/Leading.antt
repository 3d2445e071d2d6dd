-- Which nodes lead to which along the edges of a graph.
use Rattle.std.specs.Prelude.{ℕ, List, [], ◌∷◌, ◌++◌}
use Rattle.mod_rules.specs.Edges.{GraphData}
use Rattle.load_order.specs.Cycles.{IsAlongEdges}

-- a walk along edges goes from the first node, through others or not, to the second
pub record Leads (g : GraphData) (first second : ℕ) : Type 0 where
  pub between : List ℕ
  pub along : IsAlongEdges g first (between ++ second ∷ [])
