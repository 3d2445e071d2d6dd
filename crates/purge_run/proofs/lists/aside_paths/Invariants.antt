use Rattle.std.proofs.Common.{◌≡◌, map, filter_map, take}
use Rattle.rel_paths.specs.Names.{names_of}
use Rattle.purge_run.specs.Told.{case_seen, told_aside}
use Rattle.purge_run.proofs.lists.aside_paths.Given as goal

abbrev pub invariant-loop-case : goal.invariant-loop-case
invariant-loop-case l = map names_of l.paths.items ≡ filter_map (told_aside l.fn.number) (map case_seen (take l.case-index l.cases))
