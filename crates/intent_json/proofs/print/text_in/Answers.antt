use Rattle.std.proofs.Common.{◌≡◌, ◌++◌, ap, sym, subst, ◌∙◌}
use Rattle.std.specs.Prelude.{IsUtf8}
use Rattle.json.specs.Print.{print}
use Rattle.serde_json.proofs.Texts.{print-outline}
use Rattle.manifest_json.specs.Texts.{tokens_of}
use Rattle.intent_json.specs.Texts.{intent_data, text_in}
use Rattle.intent_json.specs.Forms.{form_of}
use Rattle.intent_json.proofs.print.text_in.Goals as goal

pub returns-clause-exact : goal.returns-clause-exact
unfolding text_in
returns-clause-exact c =
    let d = intent_data c.args.version (form_of c.args.phase c.args.plan.now) in
    let before = c.in_ok-write_intent.ensures.before ∙ c.new-writer.ensures.before ∙ c.new.ensures.items in
    let written = c.in_ok-write_intent.ensures.tokens ∙ ap (λ ts. ts ++ tokens_of d) c.new-writer.ensures.tokens in
    c.into_inner.ensures.items ∙ (λ i. before i ++ print (written i)) ∙ print-outline d

pub returns-clause-utf8 : goal.returns-clause-utf8
returns-clause-utf8 c =
    let before = c.in_ok-write_intent.ensures.before ∙ c.new-writer.ensures.before ∙ c.new.ensures.items in
    let same = c.into_inner.ensures.items ∙ ap (λ bs. bs ++ print c.write_intent.new.writer.tokens) before in
    subst IsUtf8 (sym same) c.into_inner.ensures.utf8
