use Rattle.std.proofs.Common.{◌≡◌, map, filter_map, take}
use Rattle.deploy_plan.specs.Order.{turned_ends}
use Rattle.deploy_plan.specs.Told.{case_seen, told_save}
use Rattle.deploy_plan.proofs.lists.saves_in_path_order.Given as goal

abbrev pub invariant-loop-case : goal.invariant-loop-case
invariant-loop-case l = map turned_ends l.saves.items ≡ filter_map told_save (map case_seen (take l.case-index l.cases))
