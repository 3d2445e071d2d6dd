-- A plan whose lists are those of the walk is laid out as the columns say, and its sets are in order.
use Rattle.plan_model.proofs.InOrder.{at_place-some, rise_by, made_in_order, game_ordered}
use Rattle.manifest_json.specs.declared.manifest.Row.{Row}
use Rattle.std.proofs.Common.{◌≡◌, ◌↔◌, List, map, sym, ap, ◌∙◌, subst}
use Rattle.std.specs.List.{Contains, AllByRecursion}
use Rattle.std.specs.declared.option.Option.TheVariants.{None, Some}
use Rattle.tree_fs.specs.Spot.{Spot, spot_of}
use Rattle.tree_fs.specs.Places.{game_spot}
use Rattle.tree_fs.specs.Disk.{Disk}
use Rattle.list_laws.proofs.Containing.{contains_map, map_contains}
use Rattle.move_plan.specs.declared.plan.SetRow.{SetRow}
use Rattle.move_plan.specs.declared.plan.Plan.{Plan}
use Rattle.move_plan.specs.Entries.{Listed, listed, set}
use Rattle.move_plan.specs.Rules.{InOrder, KeepsRule, in_order}
use Rattle.desk_model.specs.Deployed.{Win}
use Rattle.plan_model.specs.Moves.{Move, LaidOut}
use Rattle.deploy_plan.specs.Cases.{set_by, deploy_moves}
use Rattle.deploy_plan.specs.Walk.{Step, step_path, step_case, step_set, merged, walked_sets, walked_saves, walked_clears}
use Rattle.plan_model.specs.Lists.{ends_of, spotted}
use Rattle.plan_model.proofs.Firsts.{Rises}
use Rattle.deploy_plan.proofs.Walks.{sets_laid, walked_saves-are, walked_clears-are, steps_rise}

module _ (a : Disk) (rows : List Row) (wins : List Win) (old : Rises (map (λ r. r.path) rows)) (won : Rises (map (λ w. w.path) wins)) (plan : Plan) where
  pub laid_by_walk : map spotted plan.sets ≡ walked_sets a rows wins
      → ((y : Spot × Spot) → (Contains (map ends_of plan.saves) y ↔ Contains (walked_saves a rows wins) y))
      → ((x : Spot) → (Contains (map spot_of plan.clears) x ↔ Contains (walked_clears a rows wins) x))
      → KeepsRule in_order plan → LaidOut (deploy_moves a rows wins) plan
  laid_by_walk sets saves clears order = record {
    sets = sets_laid a rows wins old won plan sets;
    saves = λ from to. (
      λ h. (walked_saves-are a rows wins old won from to).0 ((saves (from, to)).0 (subst (Contains (map ends_of plan.saves)) (λ i. (h.source i, h.here i)) (map_contains ends_of plan.saves h.save h.listed))),
      λ h. let m = contains_map ends_of plan.saves (from, to) ((saves (from, to)).1 ((walked_saves-are a rows wins old won from to).1 h)) in
          record { save = m.0; listed = m.1; source = ap (λ z. z.0) m.2; here = ap (λ z. z.1) m.2 },
    );
    clears = λ x. (
      λ h. (walked_clears-are a rows wins old won x).0 ((clears x).0 (subst (Contains (map spot_of plan.clears)) h.here (map_contains spot_of plan.clears h.place h.listed))),
      λ h. let m = contains_map spot_of plan.clears x ((clears x).1 ((walked_clears-are a rows wins old won x).1 h)) in
          record { place = m.0; listed = m.1; here = m.2 },
    );
    order = order;
  }

-- The order of the sets

set_placed : (a : Disk) (s : Step) (v : Spot × Move) (row : SetRow) → step_set a s ≡ Some v → spotted row ≡ v → spot_of row.to ≡ game_spot (step_path s)
set_placed a s v row is same =
    ap (λ z. z.0) same ∙ sym (at_place-some (game_spot (step_path s)) v.0 (set_by a (step_case a s)) v.1 is).0

module _ (a : Disk) (rows : List Row) (wins : List Win) (old : Rises (map (λ r. r.path) rows)) (won : Rises (map (λ w. w.path) wins)) (plan : Plan) where
  -- the walk's sets stand in the order of a plan
  pub sets_ordered : map spotted plan.sets ≡ walked_sets a rows wins → AllByRecursion (λ (e : Listed). InOrder e.entry e.front) (listed set 0 None plan.sets)
  sets_ordered e =
      made_in_order step_path set spotted (step_set a) game_spot (set_placed a) game_ordered (λ row front h. h)
      (merged rows wins) plan.sets (rise_by step_path (merged rows wins) (steps_rise a rows wins old won)) e
