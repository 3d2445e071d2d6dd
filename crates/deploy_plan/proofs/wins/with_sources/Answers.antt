use Rattle.rel_paths.specs.Names.{IsModId}
use Rattle.winner_table.specs.declared.wins.WinRow.{WinRow}
use Rattle.list_laws.proofs.Alls.{all_one_more}
use Rattle.deploy_plan.specs.Told.{win_seen}
use Rattle.deploy_plan.specs.Sources.{found_win}
use Rattle.plan_lists.proofs.Gathered.{gathered_more, gathered_all}
use Rattle.deploy_plan.proofs.Sourced.{all_found}
use Rattle.deploy_plan.proofs.wins.with_sources.Goals as goal

pub loop-row-preserved : goal.loop-row-preserved
loop-row-preserved c =
    record {
      found = gathered_more (found_win c.args.scans.now c.args.sources.now) (λ (r : WinRow). r) win_seen c.args.rows.now c.loop-row.row-index c.row-item.result _ _ _ c.loop-row-test.true c.row-item.is c.loop-row.invariant.found c.won_of-win.ensures.win c.in_ok-push_win.ensures;
      ids = all_one_more (λ (r : WinRow). IsModId r.mod_id) c.args.rows.now c.loop-row.row-index c.row-item.result c.loop-row-test.true c.row-item.is c.loop-row.invariant.ids c.won_of-win.ensures.id;
    }

pub returns-clause-wins : goal.returns-clause-wins
returns-clause-wins c =
    all_found c.args.scans.now c.args.sources.now c.args.rows.now _ c.requires
    (gathered_all (found_win c.args.scans.now c.args.sources.now) (λ (r : WinRow). r) win_seen c.args.rows.now c.loop-row.row-index _ c.loop-row-test.false c.loop-row.invariant.found)
