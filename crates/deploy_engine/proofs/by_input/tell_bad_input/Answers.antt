use Rattle.std.proofs.Common.{refl}
use Rattle.answer_lines.specs.declared.refusal.InputRefusal.TheVariants as refusal
use Rattle.choice_lines.specs.declared.error.InputError.TheVariants.{Unread, BadAnswer}
use Rattle.deploy_engine.specs.Batches.{IsInputRefused, IsUnread, IsBadInput}
use Rattle.deploy_engine.proofs.Answered.{unread_is_bad}
use Rattle.deploy_engine.proofs.Telling.{ends_weaken}
use Rattle.deploy_engine.proofs.by_input.tell_bad_input.Goals as goal

pub returns-in-Unread-clause-ends : goal.returns-in-Unread-clause-ends
returns-in-Unread-clause-ends g c =
    let e = c.in-Unread.error in
    rw c.in-Unread.is (ends_weaken (IsUnread e) (IsBadInput (Unread e)) _ _ _ (unread_is_bad e) _ c.tell_unread.ensures.ends)

pub returns-in-BadAnswer-clause-ends : goal.returns-in-BadAnswer-clause-ends
returns-in-BadAnswer-clause-ends g c =
    let line = c.in-BadAnswer.line in
    rw c.in-BadAnswer.is (ends_weaken (IsInputRefused (refusal.BadAnswer line)) (IsBadInput (BadAnswer line)) _ _ _ (λ answer text is. (refusal.BadAnswer line, refl, is)) _ c.refuse_input.ensures.ends)
