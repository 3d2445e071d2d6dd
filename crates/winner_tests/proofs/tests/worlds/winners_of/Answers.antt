use Rattle.std.proofs.Common.{Vec, Global}
use Rattle.list_laws.proofs.Truths.{if_ok_both}
use Rattle.winner_table.specs.declared.wins.WinRow.{WinRow}
use Rattle.winner_table.specs.Winners.{AreWinners}
use Rattle.conflict_report.specs.Reports.{AreWins}
use Rattle.conflict_report.proofs.Wins.{wins-from_winners}
use Rattle.winner_tests.proofs.Short.{distinct_short}
use Rattle.winner_tests.proofs.tests.worlds.winners_of.Goals as goal

pub winners-requires-clause-differ : goal.winners-requires-clause-differ
winners-requires-clause-differ c = distinct_short c.args.overrides.now c.requires.few

pub returns : goal.returns
returns c =
    let scans = c.args.scans.now in
    let order = c.args.order.now in
    let overrides = c.args.overrides.now in
    if_ok_both
    (λ (rows : Vec WinRow Global). AreWinners scans order overrides rows.items)
    (λ (rows : Vec WinRow Global). AreWinners scans order overrides rows.items)
    (λ (rows : Vec WinRow Global). AreWins scans order rows.items)
    c.winners.result c.winners.ensures.winners c.winners.ensures.winners
    (λ rows are also. wins-from_winners scans order overrides rows.items are)
