use Rattle.std.proofs.Common.{◌≡◌, map, filter_map, take}
use Rattle.plan_model.specs.Lists.{spotted}
use Rattle.purge_run.specs.Told.{case_seen, told_set}
use Rattle.purge_run.proofs.lists.sets_of.Given as goal

abbrev pub invariant-loop-case : goal.invariant-loop-case
invariant-loop-case l = map spotted l.sets.items ≡ filter_map (told_set l.fn.number) (map case_seen (take l.case-index l.cases))
