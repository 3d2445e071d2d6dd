use Rattle.std.proofs.Common.{◌∙◌}
use Rattle.command_steps.proofs.Winning.{plain_winners, winners_pass}
use Rattle.command_steps.proofs.winners.winners_of.Goals as goal

pub returns-clause-won : goal.returns-clause-won
returns-clause-won c = plain_winners c.args.scans.now c.args.order.now c.args.profile.now.overrides _ _ (c.deref.ensures.value ∙ c.in_ok-overrides.ensures.plain) c.in_ok-winners.ensures.winners

pub returns-clause-takes : goal.returns-clause-takes
returns-clause-takes c = λ limits s look is same_profile same_order same_scans.
    winners_pass limits s look is c.args.profile.now c.args.order.now c.args.scans.now same_profile same_order same_scans _ _ _
    (plain_winners c.args.scans.now c.args.order.now c.args.profile.now.overrides _ _ (c.deref.ensures.value ∙ c.in_ok-overrides.ensures.plain) c.in_ok-winners.ensures.winners) c.in_ok-winners.ensures.apart (λ won. won)
