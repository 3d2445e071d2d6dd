use Rattle.std.proofs.Common.{◌≡◌, true, sym, subst}
use Rattle.change_choices.specs.Allowed.{is_allowed}
use Rattle.change_settle.proofs.Settles.{choice_allowed}
use Rattle.change_settle.proofs.decider.Decider.decide.Goals as goal

pub returns-clause-allowed : goal.returns-clause-allowed
returns-clause-allowed g c choices gives =
    subst (λ x. is_allowed c.args.class x ≡ true) (sym (gives c.text.result c.args.class c.choose.result c.choose.ensures)) (choice_allowed choices c.text.result.now c.args.class)
