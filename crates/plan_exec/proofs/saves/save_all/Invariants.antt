use Rattle.std.proofs.Common.{◌≡◌, ◌≤◌, ℕ, take}
use Rattle.std.specs.List.{Contains}
use Rattle.std.specs.declared.option.Option.TheVariants.{None}
use Rattle.tree_fs.specs.Spot.{spot_of}
use Rattle.tree_fs.specs.Story.{disk_of}
use Rattle.tree_fs.specs.declared.place.Place.{Place}
use Rattle.tree_fs.specs.Disk.{file}
use Rattle.plan_exec.specs.Causes.{save_obstacle}
use Rattle.plan_exec.specs.Counts.{Runs}
use Rattle.plan_exec.specs.Frames.{Saves}
use Rattle.plan_exec.specs.Steps.{IsSaveDone}
use Rattle.plan_exec.proofs.Looks.{WaitsOrDone}
use Rattle.plan_exec.proofs.saves.save_all.Given as goal

abbrev pub invariant-loop-i : goal.invariant-loop-i
invariant-loop-i g l =
    let tree = g.T.Tree in
    record {
      stops : tree.tells → Runs 0 (Saves l.fn.ready (disk_of (tree.story l.fn.tree))) (tree.story l.fn.tree) (tree.story l.tree);
      done : tree.tells → (save : Place × Place) → Contains (take l.i l.fn.ready.saves) save → IsSaveDone (disk_of (tree.story l.tree)) save;
      free : tree.tells → (save : Place × Place) → Contains (take l.i l.fn.ready.saves) save → save_obstacle (disk_of (tree.story l.fn.tree)) save ≡ None;
      each : tree.tells → (save : Place × Place) → Contains l.fn.ready.saves save → WaitsOrDone (λ (s : Place × Place). spot_of s.1) (λ s v. (n : ℕ) × (v ≡ file n)) (save_obstacle (disk_of (tree.story l.fn.tree))) (disk_of (tree.story l.fn.tree)) (disk_of (tree.story l.tree)) save;
      faults : tree.faults l.fn.tree ≤ tree.faults l.tree;
    }
