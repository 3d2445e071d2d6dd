use Rattle.std.proofs.Common.{◌≡◌, ◌≤◌, take}
use Rattle.std.specs.List.{Contains}
use Rattle.std.specs.declared.option.Option.TheVariants.{None}
use Rattle.tree_fs.specs.Spot.{spot_of}
use Rattle.tree_fs.specs.Story.{disk_of}
use Rattle.tree_fs.specs.declared.place.Place.{Place}
use Rattle.tree_fs.specs.Disk.{none}
use Rattle.plan_exec.specs.Causes.{clear_obstacle}
use Rattle.plan_exec.specs.Counts.{Runs}
use Rattle.plan_exec.specs.Frames.{Clears}
use Rattle.plan_exec.specs.Steps.{IsClearDone}
use Rattle.plan_exec.proofs.Looks.{WaitsOrDone}
use Rattle.plan_exec.proofs.clears.clear_all.Given as goal

abbrev pub invariant-loop-at : goal.invariant-loop-at
invariant-loop-at g l =
    let tree = g.T.Tree in
    record {
      stops : tree.tells → Runs 0 (Clears l.fn.ready (disk_of (tree.story l.fn.tree))) (tree.story l.fn.tree) (tree.story l.tree);
      done : tree.tells → (p : Place) → Contains (take l.at-index l.fn.ready.clears) p → IsClearDone (disk_of (tree.story l.tree)) p;
      free : tree.tells → (p : Place) → Contains (take l.at-index l.fn.ready.clears) p → clear_obstacle (disk_of (tree.story l.fn.tree)) p ≡ None;
      each : tree.tells → (p : Place) → Contains l.fn.ready.clears p → WaitsOrDone (λ (p : Place). spot_of p) (λ p v. v ≡ none) (clear_obstacle (disk_of (tree.story l.fn.tree))) (disk_of (tree.story l.fn.tree)) (disk_of (tree.story l.tree)) p;
      faults : tree.faults l.fn.tree ≤ tree.faults l.tree;
    }
