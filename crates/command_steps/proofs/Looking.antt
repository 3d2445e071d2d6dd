-- What is found of the enabled mods, put together.
use Rattle.std.proofs.Common.{◌≡◌, ℕ, List, [], ◌∷◌, map, length, refl, sym, ap, ◌∙◌, subst, arith}
use Rattle.std.specs.declared.option.Option.{Option}
use Rattle.std.proofs.lemmas.List.{length-map}
use Rattle.mod_rules.specs.Nodes.{nodes_of}
use Rattle.mod_rules.specs.Edges.{GraphData}
use Rattle.load_order.specs.Orders.{IsLawful}
use Rattle.profile_toml.specs.Records.{ProfileData, ModData}
use Rattle.stage_scan.specs.declared.scan.Scan.{Scan}
use Rattle.winner_table.specs.Winners.{HasEachOnce}
use Rattle.command_steps.specs.Profiles.{enabled_ids, base_of, bases_of, IsGraphOf}
use Rattle.command_steps.specs.Scans.{placed_scans}
use Rattle.command_steps.proofs.Cycling.{count_of_ids}

length-placed : (bs : List (Option (List ℕ))) (ss : List Scan) → length bs ≡ length ss → length (placed_scans bs ss) ≡ length ss
length-placed [] [] e = refl
length-placed [] (s ∷ ss) e = absurd (omega (arith, e))
length-placed (b ∷ bs) [] e = absurd (omega (arith, e))
length-placed (b ∷ bs) (s ∷ ss) e = let rest = length-placed bs ss (omega (arith, e)) in omega (arith, rest)

same_ids : (bs : List (Option (List ℕ))) (ss : List Scan) → length bs ≡ length ss → map (λ (s : Scan). s.mod_id) (placed_scans bs ss) ≡ map (λ (s : Scan). s.mod_id) ss
same_ids [] [] e = refl
same_ids [] (s ∷ ss) e = absurd (omega (arith, e))
same_ids (b ∷ bs) [] e = absurd (omega (arith, e))
same_ids (b ∷ bs) (s ∷ ss) e = ap (λ l. s.mod_id ∷ l) (same_ids bs ss (omega (arith, e)))

module _ (p : ProfileData) (ids : List (List ℕ)) (scans : List Scan) (ids_are : ids ≡ enabled_ids p) (scanned : map (λ (s : Scan). s.mod_id) scans ≡ ids) where
  -- there is a scan for each node
  pub scan_count : length scans ≡ length (nodes_of p)
  scan_count = sym (length-map scans (λ (s : Scan). s.mod_id)) ∙ ap length scanned ∙ count_of_ids p ids ids_are

  base_count : length (bases_of p) ≡ length scans
  base_count = length-map (nodes_of p) (λ (m : List ℕ × ModData). base_of p m.1) ∙ sym scan_count

  module _ (placed : List Scan) (is : placed ≡ placed_scans (bases_of p) scans) where
    pub placed_count : length placed ≡ length (nodes_of p)
    placed_count = ap length is ∙ length-placed (bases_of p) scans base_count ∙ scan_count

    pub placed_ids : map (λ (s : Scan). s.mod_id) placed ≡ ids
    placed_ids = ap (map (λ (s : Scan). s.mod_id)) is ∙ same_ids (bases_of p) scans base_count ∙ scanned

    module _ (g : GraphData) (graph : IsGraphOf p g) where
      pub graph_count : g.count ≡ length placed
      graph_count = graph.count ∙ sym placed_count

      -- the load order has each of them once
      pub each_once : (list : List ℕ) → IsLawful g list → HasEachOnce (length placed) list
      each_once list lawful = subst (λ n. HasEachOnce n list) graph_count (record { every = lawful.every; only = lawful.only; once = lawful.once })
