-- What nodes provide, one path and node after the other, before and after the merge.
use Rattle.std.specs.Prelude.{◌≡◌, ℕ, ◌<◌, Bool, false, List, [], ◌∷◌, length, map, flat_map, if◌then◌else◌}
use Rattle.std.specs.Str.{bytes_eq}
use Rattle.stage_scan.specs.declared.scan.Scan.{Scan}
use Rattle.winner_table.specs.declared.provided.Provided.{Provided}
use Rattle.winner_table.specs.Winners.{files_at}

abbrev pub IsNodeOf : List Scan → ℕ → Type 0
IsNodeOf scans node = node < length scans

-- a path and a node that provides it
abbrev pub path_and_node : Provided → List ℕ × ℕ
path_and_node x = (x.path.now, x.node)

abbrev pub path_bytes : Provided → List ℕ
path_bytes x = x.path.now

-- the paths of one node
abbrev pub offers_of : ℕ → List (List ℕ) → List (List ℕ × ℕ)
offers_of node files = map (λ path. (path, node)) files

-- the paths of all nodes, node after node in the load order
abbrev pub offers : List Scan → List ℕ → List (List ℕ × ℕ)
offers scans order = flat_map (λ node. offers_of node (files_at scans node)) order

-- a path with its nodes, in front of those of other paths
abbrev pub put_group : List ℕ → ℕ → List (List ℕ × List ℕ) → List (List ℕ × List ℕ)
put_group path node [] = (path, node ∷ []) ∷ []
put_group path node (g ∷ gs) = if bytes_eq path g.0 then (path, node ∷ g.1) ∷ gs else (path, node ∷ []) ∷ g ∷ gs

-- the paths, each with its nodes, where equal paths stand side by side
abbrev pub grouped : List (List ℕ × ℕ) → List (List ℕ × List ℕ)
grouped [] = []
grouped (x ∷ xs) = put_group x.0 x.1 (grouped xs)

abbrev pub HasPath : List ℕ → List ℕ × ℕ → Type 0
HasPath path x = x.0 ≡ path

-- the first of these, if any, has another path
abbrev pub BeginsOther : List ℕ → List (List ℕ × ℕ) → Type 0
BeginsOther path [] = Unit {0}
BeginsOther path (x ∷ xs) = bytes_eq path x.0 ≡ false
