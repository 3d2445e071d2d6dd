use Rattle.std.proofs.Common.{map, filter_map, sym, subst}
use Rattle.change_settle.specs.Lists.{IsFunction}
use Rattle.change_settle.specs.Tasks.{step_set, step_seen}
use Rattle.change_settle.proofs.SetOrder.{rows_rise, rows_same}
use Rattle.change_settle.proofs.lists.sets_of.Goals as goal

pub returns-clause-rise : goal.returns-clause-rise
returns-clause-rise c function =
    rows_rise c.in_ok-sets.sets.items (c.in_ok-sets.ensures.rise (subst IsFunction (sym c.in_ok-sets_by_row.ensures) function)) c.set_rows.result c.set_rows.ensures.places

pub returns-clause-same : goal.returns-clause-same
returns-clause-same c =
    rows_same c.in_ok-sets_by_row.field-0.items c.in_ok-sets.sets.items (filter_map (step_set c.args.number) (map step_seen c.args.steps.now)) c.in_ok-sets_by_row.ensures c.in_ok-sets.ensures.same c.set_rows.result c.set_rows.ensures.moves
