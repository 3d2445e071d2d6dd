use Rattle.std.proofs.Common.{◌≡◌, map, filter_map, take}
use Rattle.plan_model.specs.Lists.{spotted}
use Rattle.deploy_plan.specs.Told.{case_seen, told_set}
use Rattle.deploy_plan.proofs.lists.sets_of.Given as goal

abbrev pub invariant-loop-case : goal.invariant-loop-case
invariant-loop-case l = map spotted l.sets.items ≡ filter_map told_set (map case_seen (take l.case-index l.cases))
