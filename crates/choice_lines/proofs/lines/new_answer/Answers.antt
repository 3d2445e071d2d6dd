use Rattle.std.proofs.Common.{sym}
use Rattle.choice_lines.proofs.Adding.{answered_before}
use Rattle.choice_lines.proofs.lines.new_answer.Goals as goal

pub returns-in-Some-clause-none : goal.returns-in-Some-clause-none
returns-in-Some-clause-none c none =
    answered_before c.args.changes.now c.args.line.now c.args.earlier.now (c.in_ok-path.path.now, c.in_ok-path.action) c.in-Some.field-0 c.in_ok-path.ensures.text (sym c.in-Some.ensures)
