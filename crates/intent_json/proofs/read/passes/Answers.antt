use Rattle.std.proofs.Common.{◌∙◌}
use Rattle.std.proofs.lemmas.Bool.Decides.{same_from_decides}
use Rattle.move_plan.specs.Rules.{PassesRules}
use Rattle.move_plan.proofs.Deciding.{passes-Decides}
use Rattle.intent_json.proofs.read.passes.Goals as goal

pub returns : goal.returns
returns c = c.is_ok.ensures.value ∙ same_from_decides {P = PassesRules c.args.plan.now} _ _ c.check_plan.ensures.passes (passes-Decides c.args.plan.now)
