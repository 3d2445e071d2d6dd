-- Which lists of nodes are lawful load orders, and the one that is taken node by node.
use Rattle.std.specs.Prelude.{◌≡◌, ◌<◌, ◌≤◌, ◌⊎◌, ℕ, List, [], ◌∷◌, ◌++◌, Contains}
use Rattle.mod_rules.specs.Edges.{GraphData}

-- no node of the list stands in front of itself
abbrev pub HasNoRepeat : List ℕ → Type 0
HasNoRepeat list =
    (front : List ℕ) (node : ℕ) (back : List ℕ)
    → list ≡ front ++ node ∷ back → Contains front node → ⊥

-- in the list the first node of each edge stands in front of the second
abbrev pub KeepsEdges : GraphData → List ℕ → Type 0
KeepsEdges g list =
    (a b : ℕ) → Contains g.edges (a, b)
    → (front back : List ℕ) → list ≡ front ++ b ∷ back → Contains front a

-- the list has each node of the graph once and nothing else, and keeps the edges
pub record IsLawful (g : GraphData) (list : List ℕ) : Type 0 where
  pub every : (node : ℕ) → node < g.count → Contains list node
  pub only : (node : ℕ) → Contains list node → node < g.count
  pub once : HasNoRepeat list
  pub ordered : KeepsEdges g list

-- the node may come next after those placed: it isn't placed, and whatever has to load before it is
pub record MayComeNext (g : GraphData) (placed : List ℕ) (node : ℕ) : Type 0 where
  pub within : node < g.count
  pub unplaced : Contains placed node → ⊥
  pub free : (a : ℕ) → Contains g.edges (a, node) → Contains placed a

-- the earliest node that may come next
pub record IsNext (g : GraphData) (placed : List ℕ) (node : ℕ) : Type 0 where
  pub may : MayComeNext g placed node
  pub earliest : (other : ℕ) → MayComeNext g placed other → node ≤ other

-- each of the list is the earliest that may come next, after those placed and those in front of it
abbrev pub EachIsNext : GraphData → List ℕ → List ℕ → Type 0
EachIsNext g placed [] = Unit {0}
EachIsNext g placed (node ∷ rest) = IsNext g placed node × EachIsNext g (placed ++ node ∷ []) rest

-- what is placed when the earliest node that may come next has been taken until there is none
pub record IsTaken (g : GraphData) (placed : List ℕ) : Type 0 where
  pub each : EachIsNext g [] placed
  pub none_left : (node : ℕ) → MayComeNext g placed node → ⊥

-- node by node, the list isn't later than the other
abbrev pub IsNoLater : List ℕ → List ℕ → Type 0
IsNoLater [] other = Unit {0}
IsNoLater (x ∷ xs) [] = ⊥
IsNoLater (x ∷ xs) (y ∷ ys) = (x < y) ⊎ ((x ≡ y) × IsNoLater xs ys)
