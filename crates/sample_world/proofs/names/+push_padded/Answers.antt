use Rattle.std.proofs.Common.{◌++◌, sym, ap, ◌∙◌, append_assoc, string_bytes, decimal, ◌-◌, ◌/◌, ◌%◌}
use Rattle.std.proofs.lemmas.Result.{on_ok_weaker}
use Rattle.sample_world.specs.Texts.{padded}
use Rattle.sample_world.proofs.Digits.{padded-step}
use Rattle.sample_world.proofs.names.+push_padded.Goals as goal

pub returns : goal.returns
returns t c =
    on_ok_weaker c.write.result
    (λ written.
    written ∙ ap (λ l. l ++ decimal (c.args.number % 10)) c.in_ok-push_padded.ensures ∙ append_assoc (string_bytes c.args.text.now) (padded (c.args.width - 1) (c.args.number / 10)) (decimal (c.args.number % 10))
    ∙ ap (λ l. string_bytes c.args.text.now ++ l) (sym (padded-step c.args.width c.args.number c.if-width-eq0.false)))
    c.write.ensures.bytes
