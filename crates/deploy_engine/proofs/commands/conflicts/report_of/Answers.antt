use Rattle.deploy_engine.proofs.Conflicting.{count_of, lawful_of, wins_of, found_conflicts}
use Rattle.deploy_engine.proofs.commands.conflicts.report_of.Goals as goal

pub conflicts-requires-clause-count : goal.conflicts-requires-clause-count
conflicts-requires-clause-count c = count_of c.args.look.now c.requires _ _ _ c.as_slice.ensures.value c.as_slice-2.ensures.value c.as_slice-3.ensures.value

pub conflicts-requires-clause-lawful : goal.conflicts-requires-clause-lawful
conflicts-requires-clause-lawful c = lawful_of c.args.look.now c.requires _ _ _ c.as_slice.ensures.value c.as_slice-2.ensures.value c.as_slice-3.ensures.value

pub conflicts-requires-clause-wins : goal.conflicts-requires-clause-wins
conflicts-requires-clause-wins c = wins_of c.args.look.now c.requires _ _ _ c.as_slice.ensures.value c.as_slice-2.ensures.value c.as_slice-3.ensures.value

pub returns : goal.returns
returns c =
    let is = c.in_ok-report.ensures in
    found_conflicts c.args.look.now c.requires _ _ _ c.as_slice.ensures.value c.as_slice-2.ensures.value c.as_slice-3.ensures.value c.in_ok-report.report
    (record { paths = is.paths; each = is.each; ascending = is.ascending; pairs = is.pairs })
