use Rattle.std.proofs.Common.{◌≡◌, ◌++◌, subst}
use Rattle.std.specs.Prelude.{OnOk}
use Rattle.manifest_json.specs.Texts.{tokens_of}
use Rattle.intent_json.specs.Texts.{intent_data}
use Rattle.intent_json.proofs.Bare.{bare_form}
use Rattle.intent_json.proofs.print.write_intent.Goals as goal

pub returns-in-Clear-clause-tokens : goal.returns-in-Clear-clause-tokens
returns-in-Clear-clause-tokens c =
    let done = c.write_steps-in-Clear in
    subst (λ i. OnOk done.result (done.new.writer.tokens ≡ c.args.writer.now.tokens ++ tokens_of (intent_data c.args.version i))) (bare_form c.args.phase c.args.plan.now c.in-Clear.is) done.ensures.tokens
