-- When a call of a tree in memory fails.
use Rattle.std.specs.Prelude.{◌≡◌, ℕ, Bool, true, if◌then◌else◌, List, [], ◌∷◌, OnOk, IsErrOf, IsSome, IfSome}
use Rattle.std.specs.declared.option.Option.{Option}
use Rattle.std.specs.declared.option.Option.TheVariants.{None}
use Rattle.std.specs.declared.result.Result.{Result}
use Rattle.tree_fs.specs.declared.op.Op.{Op}
use Rattle.tree_fs.specs.declared.op.Op.TheVariants.{Create, Fill}
use Rattle.tree_fs.specs.declared.place.Place.{Place}
use Rattle.tree_fs.specs.declared.tree.TreeError.{TreeError}
use Rattle.tree_fs.specs.declared.tree.TreeError.TheVariants.{Failed}
use Rattle.tree_fs.specs.Story.{with_ops}
use Rattle.tree_mem.specs.declared.mem_tree.MemTree.{MemTree}
use Rattle.tree_mem.specs.Plan.{planned, next_call}
use Rattle.tree_mem.specs.MemStory.{mem_story, faults_of, failures_of, calls_of}

-- the failure that is planned for a tree's next call
abbrev pub next_failure : MemTree → Option Bool
next_failure m = planned (failures_of m) (calls_of m)

-- a call answers that it failed just where that is planned, or memory runs out first;
-- and only then the count rises
pub record FailsAsPlanned {T : Type 0} (old new : MemTree) (result : Result T TreeError) : Type 0 where
  pub call : calls_of new ≡ next_call (calls_of old)
  pub plan : failures_of new ≡ failures_of old
  pub ok : OnOk result (next_failure old ≡ None)
  pub failed : IsErrOf result Failed → IsSome (next_failure old)
  pub count : (IsErrOf result Failed → ⊥) → faults_of new ≡ faults_of old

-- the same of a call that changes the disk: where it fails, it tells its step, done or not as planned
pub record StepFails {T : Type 0} (op : Bool → Op) (old new : MemTree) (result : Result T TreeError) : Type 0 where
  pub fails : FailsAsPlanned old new result
  pub told : IsErrOf result Failed
      → IfSome (next_failure old) (λ done. mem_story new ≡ with_ops (mem_story old) (op done ∷ []))

-- the steps of a call that makes a file, where it is done
abbrev pub new_file_steps : Place → List ℕ → Bool → List Op
new_file_steps at bytes done = if done then Create at true ∷ Fill at bytes true ∷ [] else []

-- the same of a call that makes a file: where it fails, it tells the file and all its bytes,
-- or nothing, as planned
pub record NewFails {T : Type 0} (at : Place) (bytes : List ℕ) (old new : MemTree) (result : Result T TreeError) : Type 0 where
  pub fails : FailsAsPlanned old new result
  pub told : IsErrOf result Failed
      → IfSome (next_failure old) (λ done. mem_story new ≡ with_ops (mem_story old) (new_file_steps at bytes done))
