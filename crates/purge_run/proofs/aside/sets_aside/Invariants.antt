use Rattle.std.proofs.Common.{map, take}
use Rattle.purge_run.specs.Told.{HasOver, case_seen}
use Rattle.purge_run.proofs.aside.sets_aside.Given as goal

abbrev pub invariant-loop-case : goal.invariant-loop-case
invariant-loop-case l = HasOver (map case_seen (take l.case-index l.cases)) → ⊥
