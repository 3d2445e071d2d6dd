use Rattle.std.proofs.Common.{sym, ◌∙◌}
use Rattle.intent_json.proofs.Accepts.{accepted_is}
use Rattle.intent_json.proofs.read.is_accepted.Goals as goal

pub returns : goal.returns
returns c =
    c.is_same.ensures
    ∙ accepted_is c.args.version c.args.bytes.now c.args.intent.now c.deref.result.now (sym c.is_formed.ensures ∙ c.if-not-is_formed.false) (sym c.passes.ensures ∙ c.if-not-passes.false)
    (sym c.has_manifest_form.ensures ∙ c.if-not-has_manifest_form.false) (c.deref.ensures.value ∙ c.in_ok-text.ensures.exact)
