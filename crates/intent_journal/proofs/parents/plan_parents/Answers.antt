use Rattle.std.proofs.Common.{map, ◌∙◌, sym, ap}
use Rattle.std.proofs.lemmas.Simd.{map-map}
use Rattle.tree_fs.specs.declared.place.Place.{Place}
use Rattle.tree_fs.specs.Spot.{spot_of, parent}
use Rattle.move_plan.specs.declared.plan.SetRow.{SetRow}
use Rattle.intent_journal.proofs.parents.plan_parents.Goals as goal

pub returns : goal.returns
returns c =
    let plan = c.args.plan.now in
    let up = λ (p : Place). parent (spot_of p) in
    record {
      folders = ap (map spot_of) c.new.ensures ∙ c.in_ok-folders.ensures ∙ ap (map up) c.as_slice.ensures;
      saves = ap (map spot_of) c.new-2.ensures ∙ c.in_ok-saves.ensures ∙ ap (map (λ (s : Place × Place). parent (spot_of s.1))) c.as_slice-2.ensures ∙ sym (map-map up (λ (s : Place × Place). s.1) plan.saves);
      sets = ap (map spot_of) c.new-3.ensures ∙ c.in_ok-sets.ensures ∙ ap (map (λ (row : SetRow). parent (spot_of row.to))) c.as_slice-3.ensures ∙ sym (map-map up (λ (row : SetRow). row.to) plan.sets);
    }
