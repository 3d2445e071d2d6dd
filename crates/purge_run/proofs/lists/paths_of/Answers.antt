use Rattle.std.proofs.Common.{map, filter_map}
use Rattle.purge_run.specs.Told.{case_seen, told_place}
use Rattle.plan_lists.proofs.Ordered.{same_paths_answer}
use Rattle.purge_run.proofs.lists.paths_of.Goals as goal

pub returns-clause-same : goal.returns-clause-same
returns-clause-same c =
    same_paths_answer c.in_ok-paths.paths.items (filter_map (told_place c.args.which) (map case_seen c.args.cases.now)) c.in_ok-paths.ensures c.in_order.result c.in_order.ensures.same
