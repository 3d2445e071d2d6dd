use Rattle.std.proofs.Common.{length, ◌-◌, ◌≡◌, map, ◌+◌, ◌++◌, ◌≤◌, drop}
use Rattle.deploy_plan.specs.Walk.{merged, row_alone, win_alone}
use Rattle.deploy_plan.specs.Told.{step_seen, win_seen}
use Rattle.deploy_plan.proofs.steps.steps.Given as goal

abbrev pub invariant-loop-i : goal.invariant-loop-i
invariant-loop-i l = record {
  rows : l.i ≤ length l.rows;
  wins : l.j ≤ length l.wins;
  so_far : map step_seen l.found.items ++ merged (drop l.i l.rows) (map win_seen (drop l.j l.wins)) ≡ merged l.rows (map win_seen l.wins);
}

abbrev pub decreases-loop-i : goal.decreases-loop-i
decreases-loop-i l = (length l.rows - l.i) + (length l.wins - l.j)

abbrev pub invariant-loop-row : goal.invariant-loop-row
invariant-loop-row l = record {
  within : l.j ≤ length l.wins;
  so_far : map step_seen l.found.items ++ (map row_alone (drop l.row-index l.row-items) ++ map win_alone (map win_seen (drop l.j l.wins))) ≡ merged l.rows (map win_seen l.wins);
}

abbrev pub invariant-loop-win : goal.invariant-loop-win
invariant-loop-win l = map step_seen l.found.items ++ map win_alone (map win_seen (drop l.win-index l.win-items)) ≡ merged l.rows (map win_seen l.wins)
