use Rattle.std.proofs.Common.{◌≤◌, ◌<◌, ◌^◌, length, arith, rules}
use Rattle.command_steps.proofs.Nodes.{few_nodes}
use Rattle.command_steps.proofs.profile.check_count.Goals as goal

pub returns-clause-few : goal.returns-clause-few
returns-clause-few c =
    let within : length c.args.found.mods ≤ c.args.limits.now.mods = search rules in
    let fits : c.args.limits.now.mods < 2 ^ 32 = search rules in
    let fewer = few_nodes c.args.found.mods in
    omega (arith, within, fits, fewer)
