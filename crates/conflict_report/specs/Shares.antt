-- Which nodes share a path.
use Rattle.std.specs.Prelude.{◌≡◌, ◌<◌, ℕ, List}
use Rattle.std.specs.List.{AllByRecursion, Contains}
use Rattle.winner_table.specs.declared.providers.Providers.{Providers}
use Rattle.conflict_report.specs.declared.relation.Relation.{Relation}
use Rattle.conflict_report.specs.Relations.{Holds}

-- a pair of the node and one of the nodes that is above it
abbrev pub PairsWith : List ℕ → ℕ → ℕ → ℕ → Type 0
PairsWith nodes node a b = (a ≡ node) × Contains nodes b × (a < b)

-- a pair of one of the first nodes and one of the second that is above it
abbrev pub PairsAmong : List ℕ → List ℕ → ℕ → ℕ → Type 0
PairsAmong firsts seconds a b = Contains firsts a × Contains seconds b × (a < b)

-- a pair of nodes that provide one path
pub record SharesOneOf (all : List Providers) (a b : ℕ) : Type 0 where
  pub entry : Providers
  pub among : Contains all entry
  pub pair : PairsAmong entry.nodes.items entry.nodes.items a b

abbrev pub AreNodesBelow : ℕ → Providers → Type 0
AreNodesBelow count entry = AllByRecursion (λ node. node < count) entry.nodes.items

-- the nodes share a path, and none leads to the other
pub record IsOpen (shared reach : Relation) (a b : ℕ) : Type 0 where
  pub shares : Holds shared a b
  pub not_there : Holds reach a b → ⊥
  pub not_back : Holds reach b a → ⊥
