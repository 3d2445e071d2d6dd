use Rattle.std.proofs.Common.{◌∙◌, map, option_map, sym, ap, subst}
use Rattle.tree_fs.specs.Spot.{spot_of}
use Rattle.change_settle.specs.Above.{IsOutermostIn}
use Rattle.change_settle.specs.Tasks.{task_seen}
use Rattle.change_settle.proofs.Walked.{none_over}
use Rattle.change_settle.proofs.walk.check_parents.Goals as goal

pub returns-in-None-clause-open : goal.returns-in-None-clause-open
returns-in-None-clause-open c =
    let blocked = map spot_of c.args.blocked.now in
    none_over blocked (task_seen c.args.task) (spot_of c.in-Some.place) (sym (ap (option_map spot_of) c.in-Some.is) ∙ c.in_ok-place.ensures)
    (subst (IsOutermostIn blocked (spot_of c.in-Some.place)) c.in-None.is c.in_ok-outermost_above.ensures)
