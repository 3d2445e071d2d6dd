-- When an intent's text is too long.
use Rattle.std.proofs.Common.{◌≡◌, ℕ, ◌<◌, ◌≤◌, None, Some, refl, sym, subst}
use Rattle.std.proofs.lemmas.Bool.{lt-ltb, le-ltb}
use Rattle.move_plan.specs.declared.plan.Plan.{Plan}
use Rattle.intent_journal.specs.declared.error.ReadyError.TheVariants.{TooLong}
use Rattle.intent_journal.specs.Lengths.{written_length, length_fault}

pub length_long : (plan : Plan) (most n : ℕ) → most < n → n ≡ written_length plan → length_fault plan most ≡ Some (TooLong n)
unfolding length_fault
length_long plan most n lt is = subst (λ k. length_fault plan most ≡ Some (TooLong k)) (sym is) (rw (lt-ltb most (written_length plan) (subst (λ k. most < k) is lt)) refl)

pub length_fits : (plan : Plan) (most n : ℕ) → n ≤ most → n ≡ written_length plan → length_fault plan most ≡ None
unfolding length_fault
length_fits plan most n le is = rw (le-ltb most (written_length plan) (subst (λ k. k ≤ most) is le)) refl
