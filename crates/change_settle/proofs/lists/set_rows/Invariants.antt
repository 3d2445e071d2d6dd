use Rattle.std.proofs.Common.{◌≡◌, ◌++◌, map, length}
use Rattle.std.specs.Vec.Iter.{into_iter_items, into_iter_len}
use Rattle.move_plan.specs.declared.plan.SetRow.{SetRow}
use Rattle.plan_model.specs.Lists.{spotted}
use Rattle.change_settle.specs.Lists.{SetKey, keyed}
use Rattle.change_settle.proofs.lists.set_rows.Given as goal

abbrev pub invariant-loop-set : goal.invariant-loop-set
invariant-loop-set l = record {
  taken : l.yielded ++ into_iter_items l.set-iterator ≡ l.fn.sets.items;
  length_is : into_iter_len l.set-iterator ≡ length (into_iter_items l.set-iterator);
  moves : map spotted l.rows.items ≡ map keyed l.yielded;
  places : map (λ (row : SetRow). row.to) l.rows.items ≡ map (λ (k : SetKey). k.0) l.yielded;
}
