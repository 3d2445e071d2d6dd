use Rattle.std.proofs.Common.{◌≡◌, drop}
use Rattle.std.specs.declared.option.Option.TheVariants.{None}
use Rattle.move_plan.specs.Tests.{is_behind}
use Rattle.move_plan.specs.Rising.{first_out, front_at}
use Rattle.move_plan.proofs.order.first_not_below.Given as goal

abbrev pub invariant-loop-at : goal.invariant-loop-at
invariant-loop-at l =
    first_out is_behind 0 None l.places ≡ first_out is_behind l.at (front_at l.places l.at) (drop l.at l.places)
