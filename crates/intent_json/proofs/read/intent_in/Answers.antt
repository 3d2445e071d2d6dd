use Rattle.std.proofs.Common.{true, false, sym, ◌∙◌}
use Rattle.serde_json.specs.View.{view}
use Rattle.intent_json.proofs.Accepts.{no_version, no_intent, tested}
use Rattle.intent_json.proofs.read.intent_in.Goals as goal

pub returns-in_default : goal.returns-in_default
returns-in_default c = no_version c.args.bytes.now (view c.args.value.now) (sym c.in_default.ensures)

pub returns-in_default-2 : goal.returns-in_default-2
returns-in_default-2 c = no_intent c.args.bytes.now (view c.args.value.now) c.in-Some.version (sym c.in-Some.ensures) (sym c.in_ok-intent.ensures ∙ c.in_default-2.is)

pub returns-then-accepted : goal.returns-then-accepted
returns-then-accepted c =
    tested c.args.bytes.now (view c.args.value.now) c.in-Some.version c.in-Some-2.intent true (sym c.in-Some.ensures) (sym c.in_ok-intent.ensures ∙ c.in-Some-2.is) (sym c.in_ok-accepted.ensures ∙ c.if-accepted.true)

pub returns-else-accepted : goal.returns-else-accepted
returns-else-accepted c =
    tested c.args.bytes.now (view c.args.value.now) c.in-Some.version c.in-Some-2.intent false (sym c.in-Some.ensures) (sym c.in_ok-intent.ensures ∙ c.in-Some-2.is) (sym c.in_ok-accepted.ensures ∙ c.if-accepted.false)
