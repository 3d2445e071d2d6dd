use Rattle.std.proofs.Common.{map, filter_map}
use Rattle.change_settle.specs.Tasks.{step_clear, step_seen}
use Rattle.change_settle.proofs.Above.{spots_answer}
use Rattle.change_settle.proofs.lists.clears_of.Goals as goal

pub returns-clause-same : goal.returns-clause-same
returns-clause-same c = spots_answer c.in_ok-cleared.field-0.items (filter_map (step_clear c.args.number) (map step_seen c.args.steps.now)) c.in_ok-cleared.ensures c.in_order.result c.in_order.ensures.same
