use Rattle.std.proofs.Common.{take}
use Rattle.conflict_report.specs.Relations.{Holds}
use Rattle.conflict_report.specs.Reports.{EachLeads}
use Rattle.conflict_report.proofs.reasons.all_lead.Given as goal

abbrev pub invariant-loop-node : goal.invariant-loop-node
invariant-loop-node l = EachLeads (Holds l.reach) (take l.node-index l.nodes) l.winner
