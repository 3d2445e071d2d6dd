use Rattle.std.proofs.Common.{sym, ap, ◌∙◌, option_map}
use Rattle.deploy_plan.specs.Sources.{win_from}
use Rattle.deploy_plan.proofs.Sourced.{no_source}
use Rattle.deploy_plan.proofs.wins.won_of.Goals as goal

pub returns-in-None-clause-win : goal.returns-in-None-clause-win
returns-in-None-clause-win c =
    let row = c.args.row.now in
    sym (ap (option_map (win_from row)) (no_source row.mod_id row.path c.args.scans.now c.args.sources.now (sym (c.requires row.mod_id) ∙ sym c.in-None.ensures.value)))
