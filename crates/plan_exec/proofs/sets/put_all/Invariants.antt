use Rattle.std.proofs.Common.{◌≡◌, ◌≤◌, take}
use Rattle.std.specs.List.{Contains}
use Rattle.std.specs.declared.option.Option.TheVariants.{None}
use Rattle.tree_fs.specs.Spot.{spot_of}
use Rattle.tree_fs.specs.Story.{disk_of}
use Rattle.move_plan.specs.declared.plan.SetRow.{SetRow}
use Rattle.desk_model.specs.Outcome.{file_at}
use Rattle.plan_exec.specs.Causes.{set_obstacle}
use Rattle.plan_exec.specs.Counts.{Runs}
use Rattle.plan_exec.specs.Frames.{Puts}
use Rattle.plan_exec.specs.Steps.{IsSetDone}
use Rattle.plan_exec.proofs.Looks.{WaitsOrDone}
use Rattle.plan_exec.proofs.sets.put_all.Given as goal

abbrev pub invariant-loop-i : goal.invariant-loop-i
invariant-loop-i g l =
    let tree = g.T.Tree in
    record {
      stops : tree.tells → Runs 0 (Puts l.fn.ready (disk_of (tree.story l.fn.tree))) (tree.story l.fn.tree) (tree.story l.tree);
      done : tree.tells → (row : SetRow) → Contains (take l.i l.fn.ready.sets) row → IsSetDone (disk_of (tree.story l.fn.tree)) (disk_of (tree.story l.tree)) row;
      free : tree.tells → (row : SetRow) → Contains (take l.i l.fn.ready.sets) row → set_obstacle (disk_of (tree.story l.fn.tree)) row ≡ None;
      each : tree.tells → (row : SetRow) → Contains l.fn.ready.sets row → WaitsOrDone (λ (r : SetRow). spot_of r.to) (λ (r : SetRow) v. v ≡ file_at (disk_of (tree.story l.fn.tree)).now r.from) (set_obstacle (disk_of (tree.story l.fn.tree))) (disk_of (tree.story l.fn.tree)) (disk_of (tree.story l.tree)) row;
      faults : tree.faults l.fn.tree ≤ tree.faults l.tree;
    }
