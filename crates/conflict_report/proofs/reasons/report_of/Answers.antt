use Rattle.std.proofs.Common.{◌<◌, ℕ, length, subst, arith}
use Rattle.std.specs.List.{AllByRecursion}
use Rattle.list_laws.proofs.Alls.{all_middle, all_weaken}
use Rattle.winner_table.specs.Offers.{IsNodeOf}
use Rattle.conflict_report.proofs.reasons.report_of.Goals as goal

pub why_of-why-requires-clause-winner : goal.why_of-why-requires-clause-winner
why_of-why-requires-clause-winner c =
    let scans = c.args.scans.now in
    let last = c.last_with-winner.ensures in
    let low : c.last_with-winner.result < length scans = all_middle (IsNodeOf scans) last.front c.last_with-winner.result last.back (subst (AllByRecursion (IsNodeOf scans)) last.parts c.requires.nodes) in
    omega (arith, low, c.requires.count)

pub why_of-why-requires-clause-nodes : goal.why_of-why-requires-clause-nodes
why_of-why-requires-clause-nodes c =
    all_weaken (IsNodeOf c.args.scans.now) (λ (node : ℕ). node < c.args.reach.now.count) c.args.nodes.now (λ node low. omega (arith, low, c.requires.count)) c.requires.nodes
