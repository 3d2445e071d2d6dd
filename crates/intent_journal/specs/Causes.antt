-- What an error that holds guards tells of its cause.
use Rattle.std.specs.Prelude.{◌≡◌, ◌≤◌, ℕ, IfErr}
use Rattle.std.specs.declared.result.Result.{Result}
use Rattle.fault_count.specs.Rose.{Rose}
use Rattle.tree_fs.specs.declared.tree.TreeError.TheVariants.{Failed}
use Rattle.intent_journal.specs.declared.guards.Held.{Held}

-- the count of faults never falls, and it rose where the error is that the tree failed
pub record HeldHasCause {T : Type 0} (before now : ℕ) (result : Result T Held) : Type 0 where
  pub later : before ≤ now
  pub failed : IfErr result (λ held. held.error ≡ Failed → Rose before now)
