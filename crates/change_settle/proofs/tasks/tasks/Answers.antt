use Rattle.std.proofs.Common.{◌≡◌, ◌≤◌, ◌+◌, ◌∙◌, ◌++◌, ◌∷◌, [], map, drop, sym, ap, subst}
use Rattle.std.proofs.lemmas.List.{map-append}
use Rattle.list_laws.proofs.Lists.{one_more}
use Rattle.change_choices.specs.Choice.{choice}
use Rattle.desk_model.specs.Settled.{deed_for}
use Rattle.change_settle.specs.Tasks.{deed_seen, task_row, task_seen}
use Rattle.change_settle.proofs.Tasked.{class_at_row, ahead_at_row, tasks_more, rise_from, low_next}
use Rattle.change_settle.proofs.tasks.tasks.Goals as goal

pub loop-row-preserved : goal.loop-row-preserved
loop-row-preserved g c =
    let rows = c.args.rows.now in
    let changes = c.args.changes.now in
    let i = c.loop-row.row-index in
    let next = c.loop-row.next in
    let row = c.row-item.result in
    let found = c.class_at-class.result in
    let lt = c.loop-row-test.true in
    let is = c.row-item.is in
    let old = c.loop-row.tasks.items in
    record {
      low = subst (λ n. n ≤ i + 1) (sym c.index_after-next.ensures) (low_next found next i c.loop-row.invariant.low);
      rows = ap (map task_row) c.in_ok-push.ensures.items ∙ map-append task_row old _ ∙ ap (λ l. l ++ row ∷ []) c.loop-row.invariant.rows ∙ sym (one_more rows i row lt is);
      deeds = λ choices class gives are.
          let at : found ≡ class row = c.class_at-class.ensures ∙ class_at_row class rows i row lt is changes next (rise_from i rows c.requires.order) (c.loop-row.invariant.ahead choices class gives are) in
          tasks_more class rows i row lt is (choice choices) (map task_seen old) (map task_seen c.push.new.self.items) (deed_seen c.act_of-act.result) (c.loop-row.invariant.deeds choices class gives are)
          (c.act_of-act.ensures choices gives ∙ ap (λ o. deed_for (choice choices row.path) o) at)
          (ap (map task_seen) c.in_ok-push.ensures.items ∙ map-append task_seen old _);
      ahead = λ choices class gives are.
          let at : found ≡ class row = c.class_at-class.ensures ∙ class_at_row class rows i row lt is changes next (rise_from i rows c.requires.order) (c.loop-row.invariant.ahead choices class gives are) in
          ap (λ n. drop n changes) c.index_after-next.ensures ∙ ahead_at_row class rows i row lt is changes next found (sym at) (c.loop-row.invariant.ahead choices class gives are);
    }
