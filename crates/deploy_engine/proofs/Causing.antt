-- Whom a fault blames, some calls later.
use Rattle.std.proofs.Common.{◌≡◌, ℕ, ◌≤◌, arith, inl, inr, sym, ap, ◌∙◌}
use Rattle.std.specs.Result.{IsErr, IsErrAnd}
use Rattle.std.specs.declared.result.Result.{Result}
use Rattle.std.specs.declared.result.Result.TheVariants.{Ok, Err}
use Rattle.fault_count.specs.Rose.{Rose}
use Rattle.fault_count.specs.Causes.{HasCause}
use Rattle.command_steps.specs.declared.stop.Stop.{Stop}
use Rattle.command_steps.specs.declared.stop.Stop.TheVariants.{TreeFault}
use Rattle.command_steps.proofs.Orders.{handed_on}

pub rose_earlier : (a b n : ℕ) → a ≤ b → Rose b n → Rose a n
rose_earlier a b n le (inl below) = inl (omega (arith, le, below))
rose_earlier a b n le (inr full) = inr full

abbrev error_or : {A : Type 0} → Stop → Result A Stop → Stop
error_or other (Ok x) = other
error_or other (Err e) = e

-- what a `?` hands on, where calls went well before
pub cause_on : {A B : Type 0} {before mid now : ℕ} {r : Result A Stop} {e : Stop} → IsErr r × IsErrAnd r (λ x. x ≡ e) → before ≤ mid → HasCause {T = B} TreeFault mid now (Err e) → HasCause TreeFault before now r
cause_on {A = A} {before = before} {mid = mid} {now = now} {r = r} {e = e} is le h =
    let later = h.later in
    record {
      later = omega (arith, le, later);
      failed = λ blamed. rose_earlier before mid now le (h.failed (ap Err (ap (error_or e) (sym (handed_on r e is) ∙ blamed))));
    }

-- what a call answers that came after others
pub cause_since : {A : Type 0} {before mid now : ℕ} {r : Result A Stop} → before ≤ mid → HasCause TreeFault mid now r → HasCause TreeFault before now r
cause_since {before = before} {mid = mid} {now = now} le h =
    let later = h.later in
    record { later = omega (arith, le, later); failed = λ blamed. rose_earlier before mid now le (h.failed blamed) }
