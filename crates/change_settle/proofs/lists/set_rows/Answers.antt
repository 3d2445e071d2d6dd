use Rattle.std.proofs.Common.{◌≡◌, ◌∷◌, ◌++◌, [], map, ap, sym, ◌∙◌}
use Rattle.std.specs.Vec.Iter.{into_iter_items}
use Rattle.std.proofs.lemmas.List.{map-append}
use Rattle.list_laws.proofs.Lists.{taken_more, length_after, taken_all_by_length}
use Rattle.move_plan.specs.declared.plan.SetRow.{SetRow}
use Rattle.plan_model.specs.Lists.{spotted}
use Rattle.change_settle.specs.Lists.{SetKey, keyed}
use Rattle.change_settle.proofs.lists.set_rows.Goals as goal

pub loop-set-preserved : goal.loop-set-preserved
loop-set-preserved c =
    let at = c.loop-set in
    let set = c.in-Some.set in
    let rest = into_iter_items c.next.new.self in
    let before = into_iter_items at.set-iterator in
    let step : before ≡ set ∷ rest = c.in-Some.ensures.steps.0 in
    let row = c.set_row.result in
    let pushed = c.in_ok-push.ensures.items in
    record {
      taken = taken_more at.yielded set rest before c.args.sets.items step at.invariant.taken;
      length_is = length_after rest before set _ _ step c.in-Some.ensures.steps.1 at.invariant.length_is;
      moves = ap (map spotted) pushed ∙ map-append spotted at.rows.items (row ∷ []) ∙ (λ i. at.invariant.moves i ++ c.set_row.ensures.moves i ∷ []) ∙ sym (map-append keyed at.yielded (set ∷ []));
      places =
          ap (map (λ (row : SetRow). row.to)) pushed ∙ map-append (λ (row : SetRow). row.to) at.rows.items (row ∷ []) ∙ (λ i. at.invariant.places i ++ c.set_row.ensures.place i ∷ [])
          ∙ sym (map-append (λ (k : SetKey). k.0) at.yielded (set ∷ []));
    }

pub returns-clause-moves : goal.returns-clause-moves
returns-clause-moves c =
    let at = c.loop-set in
    let all = taken_all_by_length at.yielded (into_iter_items at.set-iterator) c.args.sets.items _ at.invariant.length_is c.in-None.ensures.steps.0 at.invariant.taken in
    at.invariant.moves ∙ ap (map keyed) all

pub returns-clause-places : goal.returns-clause-places
returns-clause-places c =
    let at = c.loop-set in
    let all = taken_all_by_length at.yielded (into_iter_items at.set-iterator) c.args.sets.items _ at.invariant.length_is c.in-None.ensures.steps.0 at.invariant.taken in
    at.invariant.places ∙ ap (map (λ (k : SetKey). k.0)) all
