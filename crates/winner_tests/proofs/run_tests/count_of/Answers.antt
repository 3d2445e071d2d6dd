use Rattle.std.proofs.Common.{rules, arith, ◌≤◌, ◌^◌, length, IsTrue, subst, All, List, Vec, Global}
use Rattle.rel_paths.specs.declared.path.RelPath.{RelPath}
use Rattle.winner_table.specs.Merged.{AreAscending}
use Rattle.winner_table.proofs.Room.{affordable_start}
use Rattle.winner_tests.proofs.run_tests.count_of.Goals as goal

pub merge_runs-requires : goal.merge_runs-requires
merge_runs-requires g c =
    let runs = c.runs_of-runs.result in
    let up : IsTrue c.are_ascending.result = search rules in
    let few : length runs.items ≤ 2 ^ 32 = omega (arith, runs.ok.0, c.len.ensures) in
    let room = affordable_start runs.items few in
    let P : List (Vec RelPath Global) → Type 0 = λ l. All (λ run. AreAscending (λ path. path) run.items) l in
    record {
      ascending = subst P c.as_slice.ensures.value (c.are_ascending.ensures up);
      count = (room.0, omega (arith, room.1, runs.ok.0), omega (arith, room.2, c.new-order.ensures));
    }
