use Rattle.std.proofs.Common.{◌≡◌, ◌+◌, length, ◌∙◌, ap}
use Rattle.intent_journal.specs.Lengths.{written_length}
use Rattle.intent_journal.proofs.ReadyTexts.{length_long, length_fits}
use Rattle.intent_journal.proofs.texts.short_text.Goals as goal

pub returns-then-written-most-clause-err : goal.returns-then-written-most-clause-err
returns-then-written-most-clause-err c =
    let n : c.len.result + 2 ≡ written_length c.args.plan.now = ap (λ k. k + 2) (c.len.ensures ∙ c.in_ok-text.text.ok.0 ∙ ap length c.in_ok-text.ensures.exact) in
    λ no. length_long c.args.plan.now c.args.most _ c.if-written-most.true n

pub returns-clause-fits : goal.returns-clause-fits
returns-clause-fits c =
    let n : c.len.result + 2 ≡ written_length c.args.plan.now = ap (λ k. k + 2) (c.len.ensures ∙ c.in_ok-text.text.ok.0 ∙ ap length c.in_ok-text.ensures.exact) in
    length_fits c.args.plan.now c.args.most _ c.if-written-most.false n
