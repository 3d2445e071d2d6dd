use Rattle.std.proofs.Common.{◌≡◌, ◌∙◌, ap, sym, arith}
use Rattle.move_plan.specs.Tests.{first_of, rule_named}
use Rattle.move_plan.proofs.check.first_failing.Goals as goal

pub returns-in_default : goal.returns-in_default
returns-in_default c =
    let nine : c.args.rule ≡ 9 = omega (arith, c.requires.first, c.requires.last) in
    c.first_not_apart.ensures ∙ ap (λ n. first_of (rule_named n) c.args.plan.now) (sym nine)
