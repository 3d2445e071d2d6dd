use Rattle.std.proofs.Common.{option_and_then, option_map, sym, ap, subst, ◌∙◌}
use Rattle.std.proofs.lemmas.Result.{IfOk-weaker}
use Rattle.serde_json.specs.View.{view}
use Rattle.intent_json.specs.Accepted.{IsIntentOf}
use Rattle.intent_json.specs.Reads.{intent_in, intent_value}
use Rattle.intent_json.proofs.Accepts.{value_is}
use Rattle.intent_json.proofs.read.read_intent.Goals as goal

pub returns-in_default-clause-value : goal.returns-in_default-clause-value
unfolding intent_value
returns-in_default-clause-value c = sym (ap (option_and_then (intent_in c.args.bytes.now)) (sym c.in_ok-value.ensures ∙ ap (option_map view) c.in_default.is))

pub returns-in_default-clause-exact : goal.returns-in_default-clause-exact
unfolding intent_value
returns-in_default-clause-exact c =
    let bytes = c.args.bytes.now in
    subst (IsIntentOf bytes) (ap (option_and_then (intent_in bytes)) (sym c.in_ok-value.ensures ∙ ap (option_map view) c.in_default.is)) (value_is bytes)

pub returns-clause-value : goal.returns-clause-value
unfolding intent_value
returns-clause-value c =
    let bytes = c.args.bytes.now in
    let read = sym (ap (option_and_then (intent_in bytes)) (sym c.in_ok-value.ensures ∙ ap (option_map view) c.in-Some.is)) in
    IfOk-weaker c.intent_in.result _ _ (λ o h. h ∙ read) c.intent_in.ensures

pub returns-clause-exact : goal.returns-clause-exact
unfolding intent_value
returns-clause-exact c =
    let bytes = c.args.bytes.now in
    let read = sym (ap (option_and_then (intent_in bytes)) (sym c.in_ok-value.ensures ∙ ap (option_map view) c.in-Some.is)) in
    IfOk-weaker c.intent_in.result _ _ (λ o h. subst (IsIntentOf bytes) (sym (h ∙ read)) (value_is bytes)) c.intent_in.ensures
