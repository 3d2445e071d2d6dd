use Rattle.std.proofs.Common.{rules, ◌≤◌, length, sym}
use Rattle.move_plan.proofs.Marked.{marked, unmarked}
use Rattle.move_plan.proofs.marks.mark_source.Goals as goal

pub returns-in-Some : goal.returns-in-Some
returns-in-Some c =
    let room : length c.args.clears.now ≤ length c.args.marks.now = search rules in
    marked c.args.clears.now c.requires.rising c.args.row.now c.args.marks.now c.in-Some.at room c.in-Some.ensures

pub returns-in_default : goal.returns-in_default
returns-in_default c =
    unmarked c.args.clears.now c.requires.rising c.args.row.now c.args.marks.now (sym c.in_default.ensures)
