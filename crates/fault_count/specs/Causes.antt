-- What an answer tells of its cause.
use Rattle.std.specs.Prelude.{ℕ, ◌≡◌, ◌≤◌, IsErrOf}
use Rattle.std.specs.declared.option.Option.{Option}
use Rattle.std.specs.declared.option.Option.TheVariants.{Some}
use Rattle.std.specs.declared.result.Result.{Result}
use Rattle.fault_count.specs.Rose.{Rose}

-- the count of faults never falls, and it rose where the answer is the error that blames the object
pub record HasCause {T E : Type 0} (blamed : E) (before now : ℕ) (result : Result T E) : Type 0 where
  pub later : before ≤ now
  pub failed : IsErrOf result blamed → Rose before now

-- want of memory may come anywhere, and any other error is exactly the first fault
abbrev pub Explains : {E : Type 0} → E → Option E → E → Type 0
Explains memory fault e = (e ≡ memory → ⊥) → fault ≡ Some e
