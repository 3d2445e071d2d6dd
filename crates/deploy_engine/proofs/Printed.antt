-- From what the steps found to what a command prints.
use Rattle.std.proofs.Common.{◌≡◌, ℕ, List, ◌∙◌, ap, subst}
use Rattle.tree_fs.specs.Disk.{Disk}
use Rattle.command_steps.specs.declared.look.Looked.{Looked}
use Rattle.command_steps.specs.declared.look.OrderLook.{OrderLook}
use Rattle.command_steps.specs.Profiles.{enabled_ids}
use Rattle.command_steps.specs.Looks.{placed}
use Rattle.command_steps.specs.Found.{IsOrderLook, IsLooked, IsWhole}
use Rattle.answer_lines.specs.Lists.{order_lines, winner_lines, conflict_lines}
use Rattle.deploy_engine.specs.OrderWork.{PrintsOrder}
use Rattle.deploy_engine.specs.WinnersWork.{PrintsWinners}
use Rattle.deploy_engine.specs.ConflictsWork.{AreConflicts, HasConflictLines, PrintsConflicts}

pub order_printed : (d : Disk) (found : OrderLook) (text : List ℕ) → IsOrderLook d found → text ≡ order_lines found.ids.items found.order.items → PrintsOrder d text
order_printed d found text is lines = record {
  profile = found.profile;
  has_profile = is.profile;
  graph = found.graph;
  is_graph = is.whole.graph;
  order = found.order.items;
  is_order = is.whole.order;
  lines = lines ∙ ap (λ ids. order_lines ids found.order.items) is.whole.ids;
}

pub winners_printed : (d : Disk) (found : Looked) (text : List ℕ) → IsLooked d found → text ≡ winner_lines found.wins.items → PrintsWinners d text
winners_printed d found text is lines = record { look = is.look; is_look = is.is; wins = found.wins.items; are_wins = is.wins; lines = lines }

pub conflicts_printed : (d : Disk) (found : Looked) (text : List ℕ) → IsLooked d found → IsWhole found → HasConflictLines found text → PrintsConflicts d text
conflicts_printed d found text is whole has =
    let wins = found.wins.items in
    let with_scans = subst (λ scans. AreConflicts scans found.order.items found.graph wins has.report) is.scans has.are_conflicts in
    let with_order = subst (λ order. AreConflicts (placed is.look) order found.graph wins has.report) is.order with_scans in
    record {
      look = is.look;
      is_look = is.is;
      wins = wins;
      are_wins = is.wins;
      report = has.report;
      are_conflicts = subst (λ graph. AreConflicts (placed is.look) is.look.order graph wins has.report) is.graph with_order;
      lines = has.lines ∙ ap (λ ids. conflict_lines ids has.report) (whole.ids ∙ ap enabled_ids is.profile);
    }
