use Rattle.command_steps.proofs.Winning.{plain_all}
use Rattle.command_steps.proofs.overrides.plain_overrides.Goals as goal

pub returns-clause-plain : goal.returns-clause-plain
returns-clause-plain c = plain_all c.plain_list.result c.overrides.result.now.entries c.args.profile.now.overrides c.overrides.ensures.entries c.plain_list.ensures.plain
