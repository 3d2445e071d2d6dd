use Rattle.std.proofs.Common.{◌≡◌, ◌≤◌, map, take}
use Rattle.std.specs.List.{AllByRecursion}
use Rattle.rel_paths.specs.Names.{IsFreePath}
use Rattle.tree_fs.specs.Story.{disk_of}
use Rattle.deploy_plan.specs.Steps.{IsFreeStep}
use Rattle.deploy_plan.specs.Parents.{AreSeen}
use Rattle.deploy_plan.specs.Missing.{AreNoted}
use Rattle.deploy_plan.specs.Told.{IsGoodCase, told_win_of, step_win, told, step_seen, case_seen}
use Rattle.deploy_plan.proofs.cases.cases.Given as goal

abbrev pub invariant-loop-step : goal.invariant-loop-step
invariant-loop-step g l =
    let tree = g.T.Tree in
    let a = disk_of (tree.story l.fn.tree) in
    let done = map step_seen (take l.step-index l.steps) in
    record {
      same : tree.tells → tree.story l.tree ≡ tree.story l.fn.tree;
      later : tree.faults l.fn.tree ≤ tree.faults l.tree;
      good : AllByRecursion (λ c. IsGoodCase (case_seen c)) l.cases.items;
      wins : map (λ c. told_win_of (case_seen c)) l.cases.items ≡ map step_win done;
      missing : AllByRecursion IsFreePath l.parents.missing.items;
      seen : tree.tells → AreSeen a l.parents;
      noted : tree.tells → AreNoted a done l.parents.missing.items;
      free : tree.tells → AllByRecursion (IsFreeStep a) done;
      so_far : tree.tells → map case_seen l.cases.items ≡ map (told a) done;
    }
