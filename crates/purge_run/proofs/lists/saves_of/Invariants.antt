use Rattle.std.proofs.Common.{◌≡◌, map, filter_map, take}
use Rattle.plan_model.specs.Lists.{ends_of}
use Rattle.purge_run.specs.Told.{case_seen, told_save}
use Rattle.purge_run.proofs.lists.saves_of.Given as goal

abbrev pub invariant-loop-case : goal.invariant-loop-case
invariant-loop-case l = map ends_of l.saves.items ≡ filter_map (told_save l.fn.number) (map case_seen (take l.case-index l.cases))
