-- The edges of the rules, one by one, as the crate finds them.
use Rattle.std.specs.Prelude.{ℕ, ◌+◌, List, [], ◌∷◌, ◌++◌, Bool, Option, None, Some, if◌then◌else◌}
use Rattle.std.specs.List.{filter_map}
use Rattle.std.specs.Option.{option_map}
use Rattle.std.specs.Str.{bytes_eq}
use Rattle.profile_toml.specs.declared.rule.RuleKind.{RuleKind}
use Rattle.profile_toml.specs.declared.rule.RuleKind.TheVariants.{Before, After}
use Rattle.profile_toml.specs.Records.{ModData, RuleData}
use Rattle.std.specs.Ordering.{is_eq}
use Rattle.mod_rules.specs.Nodes.{is_met_by}
use Rattle.mod_rules.specs.Edges.{edge_cmp}

-- for each mod, how many enabled ones stand before it, if n do before the first
abbrev pub counts_before : ℕ → List (List ℕ × ModData) → List ℕ
counts_before n [] = []
counts_before n (m ∷ ms) = n ∷ counts_before (if m.1.enabled then n + 1 else n) ms

-- the node of the mod that the rule matches, if n enabled ones stand before the first
abbrev pub node_of : ℕ → RuleData → List (List ℕ × ModData) → Option ℕ
node_of n r [] = None
node_of n r (m ∷ ms) =
    if bytes_eq r.refers m.0 then (if is_met_by r m.1 then Some n else None)
    else node_of (if m.1.enabled then n + 1 else n) r ms

-- the edge of a rule of this kind, of the mod at the node and the one at the other, if it matches
-- that one
abbrev pub kind_pair : RuleKind → ℕ → Option ℕ → Option (ℕ × ℕ)
kind_pair Before node other = option_map (λ k. (node, k)) other
kind_pair After node other = option_map (λ k. (k, node)) other
kind_pair _ node other = None

abbrev pub rule_pair : List (List ℕ × ModData) → ℕ → RuleData → Option (ℕ × ℕ)
rule_pair mods node r = kind_pair r.kind node (node_of 0 r mods)

-- the edges of the rules of these nodes, the first of which is node n
abbrev pub pairs_of : List (List ℕ × ModData) → ℕ → List (List ℕ × ModData) → List (ℕ × ℕ)
pairs_of mods n [] = []
pairs_of mods n (m ∷ ms) = filter_map (rule_pair mods n) m.1.rules ++ pairs_of mods (n + 1) ms

-- whether the two are one edge
abbrev pub is_edge : ℕ × ℕ → ℕ × ℕ → Bool
is_edge e f = is_eq (edge_cmp e f)
