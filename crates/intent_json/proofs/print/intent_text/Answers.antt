use Rattle.manifest_json.specs.declared.version.FormatVersion.TheVariants.{Two}
use Rattle.intent_json.specs.Forms.{form_of}
use Rattle.intent_json.proofs.Intents.{one_intent}
use Rattle.intent_json.proofs.Accepts.{second_form, written_reads}
use Rattle.intent_json.proofs.Chains.{all_ok}
use Rattle.intent_json.proofs.print.intent_text.Goals as goal

pub returns-clause-alone : goal.returns-clause-alone
returns-clause-alone c =
    let i = form_of c.args.phase c.args.plan.now in
    all_ok _ _ _ _ c.text_in.result c.text_in.ensures.exact c.text_in.ensures.utf8 c.text_in.ensures.held (λ bytes exact utf8 held.
    λ j other text. one_intent bytes.items j i other held text (record { version = Two; has_text = second_form i.plan.manifest; same = exact }))

pub returns-clause-reads_back : goal.returns-clause-reads_back
returns-clause-reads_back c =
    all_ok _ _ _ _ c.text_in.result c.text_in.ensures.exact c.text_in.ensures.utf8 c.text_in.ensures.held (λ bytes exact utf8 held passes. written_reads bytes.items c.args.phase c.args.plan.now exact utf8 held passes)
