-- Where a relation between nodes holds.
use Rattle.std.specs.Prelude.{◌≡◌, ◌<◌, ◌+◌, ◌*◌, ◌⊎◌, ◌↔◌, ℕ, List, true, false, Contains, slice_index_or as get_or}
use Rattle.mod_rules.specs.Edges.{GraphData}
use Rattle.conflict_report.specs.declared.relation.Relation.{Relation}
use Rattle.conflict_report.specs.Leading.{Leads}

-- the relation holds from the first node to the second
pub record Holds (r : Relation) (first second : ℕ) : Type 0 where
  pub first_within : first < r.count
  pub second_within : second < r.count
  pub marked : get_or r.marks.items (first * r.count + second) false ≡ true

abbrev pub HoldsNowhere : Relation → Type 0
HoldsNowhere r = (first second : ℕ) → Holds r first second → ⊥

-- the new relation is between as many nodes, and holds where the old one did and where this does
pub record GrowsBy (old new : Relation) (P : ℕ → ℕ → Type 0) : Type 0 where
  pub count : new.count ≡ old.count
  pub grows : (a b : ℕ) → Holds new a b ↔ (Holds old a b ⊎ P a b)

-- a is the node, and one of the edges goes to b, or to a node from which the relation holds to b
pub record FollowsFrom (r : Relation) (node : ℕ) (edges : List (ℕ × ℕ)) (a b : ℕ) : Type 0 where
  pub is : a ≡ node
  pub edge : ℕ × ℕ
  pub among : Contains edges edge
  pub to : (b ≡ edge.1) ⊎ Holds r edge.1 b

-- the relation is between the graph's nodes, and tells which lead to which
pub record TellsLeads (g : GraphData) (r : Relation) : Type 0 where
  pub count : r.count ≡ g.count
  pub exact : (a b : ℕ) → Holds r a b ↔ Leads g a b
