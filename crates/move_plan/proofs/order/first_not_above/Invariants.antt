use Rattle.std.proofs.Common.{◌≡◌, map, drop}
use Rattle.std.specs.declared.option.Option.TheVariants.{None}
use Rattle.move_plan.specs.Tests.{is_before}
use Rattle.move_plan.specs.Rising.{first_out, front_at}
use Rattle.move_plan.proofs.order.first_not_above.Given as goal

abbrev pub invariant-loop-at : goal.invariant-loop-at
invariant-loop-at g l =
    first_out is_before 0 None (map g.T.Keyed.key l.items) ≡ first_out is_before l.at (front_at (map g.T.Keyed.key l.items) l.at) (drop l.at (map g.T.Keyed.key l.items))
