use Rattle.std.proofs.Common.{◌≡◌, ◌∙◌, ap₂, rules}
use Rattle.std.proofs.lemmas.Result.{IfOk-weaker}
use Rattle.clap.specs.Words.{rule_of, with_rule}
use Rattle.command_words.specs.Apps.{rest_rule}
use Rattle.command_words.proofs.positional.rest_command.Goals as goal

pub returns : goal.returns
returns c =
    let rule : rule_of c.action-rest.result ≡ rest_rule = search rules in
    IfOk-weaker c.arg.result _ _ (λ r h. h.shape (search rules) ∙ ap₂ with_rule c.bare_command.ensures rule) c.arg.ensures
