use Rattle.std.proofs.Common.{◌≡◌, ◌≤◌, map, take, drop}
use Rattle.std.specs.declared.option.Option.{Option}
use Rattle.manifest_json.specs.declared.manifest.Row.{Row}
use Rattle.change_choices.specs.declared.choices.Choices.{Choices}
use Rattle.change_choices.specs.declared.class.Class.{Class}
use Rattle.change_choices.specs.Choice.{choice}
use Rattle.change_detect.specs.Changes.{changes_by}
use Rattle.change_settle.specs.Decides.{GivesChoice}
use Rattle.change_settle.specs.Tasks.{task_row, task_seen, tasks_by}
use Rattle.change_settle.proofs.tasks.tasks.Given as goal

abbrev pub invariant-loop-row : goal.invariant-loop-row
invariant-loop-row g l = record {
  low : l.next ≤ l.row-index;
  rows : map task_row l.tasks.items ≡ take l.row-index l.rows;
  deeds : (choices : Choices) (class : Row → Option Class) → GivesChoice (goal.F-post g l.decider.choose) choices → l.changes ≡ changes_by class l.rows
      → map task_seen l.tasks.items ≡ tasks_by (choice choices) class (take l.row-index l.rows);
  ahead : (choices : Choices) (class : Row → Option Class) → GivesChoice (goal.F-post g l.decider.choose) choices → l.changes ≡ changes_by class l.rows
      → drop l.next l.changes ≡ changes_by class (drop l.row-index l.rows);
}
