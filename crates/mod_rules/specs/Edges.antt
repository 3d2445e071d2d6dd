-- Which mods have to load before which, and what contracts see of a graph.
use Rattle.std.specs.Prelude.{◌≡◌, ◌<◌, ℕ, List, Some, All, Contains, IsTrue, slice_get, ◌⊎◌, refl}
use Rattle.std.specs.List.Sorted.{IsStrictlySortedBy}
use Rattle.std.specs.Ordering.{ordering_then, nat_cmp}
use Rattle.std.specs.declared.cmp.Ordering.{Ordering}
use Rattle.std.specs.Coded.{Coded, code_by, coded×, coded_ℕ, coded_list}
use Rattle.profile_toml.specs.declared.rule.RuleKind.{RuleKind}
use Rattle.profile_toml.specs.declared.rule.RuleKind.TheVariants.{Before, After}
use Rattle.profile_toml.specs.Records.{ModData, RuleData}
use Rattle.profile_toml.specs.Releases.{admits}

-- the mod has a rule of this kind that refers to the other and, if it has a range, that other has a
-- release that the range matches
pub record HasRule (kind : RuleKind) (other : List ℕ × ModData) (m : ModData) : Type 0 where
  pub rule : RuleData
  pub among : Contains m.rules rule
  pub of_kind : rule.kind ≡ kind
  pub refers_to : rule.refers ≡ other.0
  pub admitted : IsTrue (admits rule.range other.1.release)

-- of these nodes, node a has to load before node b
pub record IsEdge (nodes : List (List ℕ × ModData)) (a b : ℕ) : Type 0 where
  pub first : List ℕ × ModData
  pub second : List ℕ × ModData
  pub first_at : slice_get nodes a ≡ Some first
  pub second_at : slice_get nodes b ≡ Some second
  pub ruled : HasRule After first second.1 ⊎ HasRule Before second first.1

-- how many nodes, and the edges
pub record GraphData : Type 0 where
  pub count : ℕ
  pub edges : List (ℕ × ℕ)

abbrev pub graph_code : Coded GraphData
graph_code =
    code_by (ℕ × List (ℕ × ℕ)) (coded× coded_ℕ (coded_list (coded× coded_ℕ coded_ℕ)))
    (λ g. (g.count, g.edges)) (λ p. record { count = p.0; edges = p.1 }) (λ _. refl)

-- the order of edges: by the first node, then by the second
abbrev pub edge_cmp : ℕ × ℕ → ℕ × ℕ → Ordering
edge_cmp e f = ordering_then (nat_cmp e.0 f.0) (nat_cmp e.1 f.1)

-- each edge is below those after it
abbrev pub AreAscending : List (ℕ × ℕ) → Type 0
AreAscending edges = IsStrictlySortedBy edge_cmp edges

-- both nodes of each edge are among this many
abbrev pub AreWithin : ℕ → List (ℕ × ℕ) → Type 0
AreWithin count edges = All (λ e. (e.0 < count) × (e.1 < count)) edges
