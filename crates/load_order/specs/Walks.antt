-- The walk that the crate makes to find a cycle.
use Rattle.std.specs.Prelude.{◌≡◌, ◌<◌, ◌≤◌, ℕ, List, [], ◌∷◌, ◌++◌, Contains, reverse, slice_index}
use Rattle.load_order.specs.Orders.{HasNoRepeat}

-- of the nodes that wait, the earliest with an edge to this node
pub record IsEarliestWaiting (waits : List ℕ) (edges : List (ℕ × ℕ)) (node a : ℕ) : Type 0 where
  pub edge : Contains edges (a, node)
  pub waiting : 0 < slice_index waits a
  pub earliest : (other : ℕ) → Contains edges (other, node) → 0 < slice_index waits other
      → a ≤ other

-- from the node each of these is the one before
abbrev pub Goes : List ℕ → ℕ → List ℕ → Type 0
Goes before node [] = Unit {0}
Goes before node (a ∷ rest) = (a ≡ slice_index before node) × Goes before a rest

-- the path goes from the start until the node that repeats
pub record IsLasso (before : List ℕ) (start : ℕ) (path : List ℕ) (again : ℕ) : Type 0 where
  pub walk : List ℕ
  pub is : start ∷ walk ≡ path ++ again ∷ []
  pub goes : Goes before start walk
  pub once : HasNoRepeat path
  pub repeats : Contains path again

-- the end of the path from this node on, backwards, and begun with its earliest node
pub record IsTurned (path : List ℕ) (again : ℕ) (cycle : List ℕ) : Type 0 where
  pub entry : List ℕ
  pub loop : List ℕ
  pub splits : path ≡ entry ++ again ∷ loop
  pub front : List ℕ
  pub first : ℕ
  pub rest : List ℕ
  pub turned : reverse (again ∷ loop) ≡ front ++ first ∷ rest
  pub is : cycle ≡ first ∷ rest ++ front
  pub earliest : (node : ℕ) → Contains cycle node → first ≤ node
