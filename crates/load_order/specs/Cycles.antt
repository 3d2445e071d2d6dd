-- The cycle that keeps the nodes of a graph from being placed.
use Rattle.std.specs.Prelude.{◌≡◌, ◌<◌, ◌≤◌, ℕ, List, [], ◌∷◌, ◌++◌, Contains, reverse}
use Rattle.mod_rules.specs.Edges.{GraphData}
use Rattle.load_order.specs.Orders.{HasNoRepeat, IsTaken}
use Rattle.load_order.specs.declared.error.OrderError.{OrderError}
use Rattle.load_order.specs.declared.error.OrderError.TheVariants.{Cycle, Memory}

-- the node is one of the graph, and isn't placed
pub record IsUnplaced (g : GraphData) (placed : List ℕ) (node : ℕ) : Type 0 where
  pub within : node < g.count
  pub unplaced : Contains placed node → ⊥

-- the earliest unplaced node
pub record IsEarliestUnplaced (g : GraphData) (placed : List ℕ) (node : ℕ) : Type 0 where
  pub is : IsUnplaced g placed node
  pub earliest : (other : ℕ) → IsUnplaced g placed other → node ≤ other

-- the earliest unplaced node that has to load before this one
pub record IsEarliestBefore (g : GraphData) (placed : List ℕ) (node a : ℕ) : Type 0 where
  pub is : IsUnplaced g placed a
  pub edge : Contains g.edges (a, node)
  pub earliest : (other : ℕ) → IsUnplaced g placed other → Contains g.edges (other, node)
      → a ≤ other

-- each step of the walk from the node through these leads to the earliest unplaced node that has to
-- load before
abbrev pub IsWalk : GraphData → List ℕ → ℕ → List ℕ → Type 0
IsWalk g placed node [] = Unit {0}
IsWalk g placed node (a ∷ rest) = IsEarliestBefore g placed node a × IsWalk g placed a rest

-- The cycle that the definition finds. What can be placed is placed. From the earliest unplaced node
-- a walk goes on until a node repeats: through the entry, then round the loop. Backwards the loop goes
-- along edges; begun at its earliest node it is the cycle.
pub record IsFound (g : GraphData) (cycle : List ℕ) : Type 0 where
  pub placed : List ℕ
  pub taken : IsTaken g placed
  pub start : ℕ
  pub begins : IsEarliestUnplaced g placed start
  pub walk : List ℕ
  pub walks : IsWalk g placed start walk
  pub entry : List ℕ
  pub again : ℕ
  pub loop : List ℕ
  pub splits : start ∷ walk ≡ entry ++ again ∷ (loop ++ again ∷ [])
  pub once : HasNoRepeat (entry ++ again ∷ loop)
  pub front : List ℕ
  pub first : ℕ
  pub rest : List ℕ
  pub turned : reverse (again ∷ loop) ≡ front ++ first ∷ rest
  pub is : cycle ≡ first ∷ rest ++ front
  pub earliest : (node : ℕ) → Contains cycle node → first ≤ node

-- each node of the list has to load before the one after it
abbrev pub IsAlongEdges : GraphData → ℕ → List ℕ → Type 0
IsAlongEdges g node [] = Unit {0}
IsAlongEdges g node (next ∷ rest) = Contains g.edges (node, next) × IsAlongEdges g next rest

-- the list goes along edges, and from its last node back to its first
pub record IsClosedWalk (g : GraphData) (cycle : List ℕ) : Type 0 where
  pub first : ℕ
  pub rest : List ℕ
  pub is : cycle ≡ first ∷ rest
  pub closed : IsAlongEdges g first (rest ++ first ∷ [])

-- no node of the list is earlier than its first
pub record BeginsEarliest (list : List ℕ) : Type 0 where
  pub first : ℕ
  pub rest : List ℕ
  pub is : list ≡ first ∷ rest
  pub earliest : (node : ℕ) → Contains list node → first ≤ node

-- where the error tells a cycle, this holds of it
abbrev pub IfCycle : OrderError → (List ℕ → Type 0) → Type 0
IfCycle (Cycle cycle) P = P cycle.items
IfCycle Memory P = Unit {0}
