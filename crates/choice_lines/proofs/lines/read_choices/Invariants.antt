use Rattle.std.proofs.Common.{◌≡◌, ◌≤◌, ◌-◌, ◌++◌, None}
use Rattle.choice_lines.proofs.Reading.{IsReading}
use Rattle.choice_lines.proofs.lines.read_choices.Given as goal

abbrev pub invariant-loop-actions : goal.invariant-loop-actions
invariant-loop-actions g l =
    let source = g.S.Source in
    record {
      reading : IsReading source.tells l.changes l.reader.given (source.left l.fn.source) (l.reader.held ++ source.left l.source) l.actions;
      fresh : l.reader.stuck ≡ None;
      within : l.reader.given ≤ 10000;
      faults : source.faults l.fn.source ≤ source.faults l.source;
    }

-- how many lines may be given yet
abbrev pub decreases-loop-actions : goal.decreases-loop-actions
decreases-loop-actions g l = 10000 - l.reader.given
