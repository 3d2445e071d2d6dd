use Rattle.std.proofs.Common.{◌≡◌, ◌<◌, ◌+◌, ℕ, List, Vec, Global, map, filter, take, length, nat_lt, sym, ap, subst, ◌∙◌, arith}
use Rattle.std.specs.List.{AllByRecursion, Contains}
use Rattle.winner_table.specs.declared.providers.Providers.{Providers}
use Rattle.winner_table.specs.Winners.{id_at}
use Rattle.winner_table.specs.Offers.{IsNodeOf}
use Rattle.winner_table.specs.Providers.{path_of}
use Rattle.conflict_report.specs.declared.report.PathReport.{PathReport}
use Rattle.conflict_report.specs.Relations.{Holds}
use Rattle.conflict_report.specs.Reports.{paths_in}
use Rattle.conflict_report.specs.Entries.{has_more, HasReport}
use Rattle.conflict_report.proofs.Reporting.{same_length, match_at, paths_then, paths_else, report_more}
use Rattle.conflict_report.proofs.reasons.reports_of.Goals as goal
use Rattle.conflict_report.proofs.reasons.reports_of.Goals.{then-are_more+in_ok-report_of+in_ok-push, else-are_more}

pub report_of-requires-clause-nodes : goal.report_of-requires-clause-nodes
report_of-requires-clause-nodes c =
    let all = c.args.all.now in
    let wins = c.args.wins.now in
    let entry = c.index-all-i.result in
    let low : c.loop-i.i < length wins = c.loop-i-test.true in
    let same = same_length all wins c.requires.paths in
    let m = match_at all wins c.requires.paths c.loop-i.i entry c.index-wins-i.result (omega (arith, low, same)) low c.index-all-i.is c.index-wins-i.is c.args.scans.now c.requires.matches in
    let own = c.as_slice-nodes.ensures.value ∙ ap (λ (e : Providers). e.nodes.items) (sym c.index-all-i.is) in
    subst (AllByRecursion (IsNodeOf c.args.scans.now)) (sym own) m.nodes

pub report_of-requires-clause-some : goal.report_of-requires-clause-some
report_of-requires-clause-some c =
    let all = c.args.all.now in
    let wins = c.args.wins.now in
    let entry = c.index-all-i.result in
    let row = c.index-wins-i.result in
    let low : c.loop-i.i < length wins = c.loop-i-test.true in
    let same = same_length all wins c.requires.paths in
    let m = match_at all wins c.requires.paths c.loop-i.i entry row (omega (arith, low, same)) low c.index-all-i.is c.index-wins-i.is c.args.scans.now c.requires.matches in
    let own = c.as_slice-nodes.ensures.value ∙ ap (λ (e : Providers). e.nodes.items) (sym c.index-all-i.is) in
    subst (λ (l : List ℕ). Contains (map (id_at c.args.scans.now) l) row.mod_id) (sym own) m.some

pub loop-i-preserved : goal.loop-i-preserved
loop-i-preserved c =
    let all = c.args.all.now in
    let wins = c.args.wins.now in
    let at = c.loop-i in
    let entry = c.index-all-i.result in
    let row = c.index-wins-i.result in
    let low : at.i < length wins = c.loop-i-test.true in
    let same = same_length all wins c.requires.paths in
    let low_all : at.i < length all = omega (arith, low, same) in
    let own = c.as_slice-nodes.ensures.value ∙ ap (λ (e : Providers). e.nodes.items) (sym c.index-all-i.is) in
    let tested = c.are_more.ensures ∙ ap (λ (l : List ℕ). nat_lt 1 (length l)) own in
    let Each = AllByRecursion (HasReport c.args.scans.now (Holds c.args.reach.now) all wins) in
    let Paths = λ (reports : List PathReport). paths_in reports ≡ map path_of (filter has_more (take (at.i + 1) all)) in
    elim c.if-are_more.branch [
      | then-are_more+in_ok-report_of+in_ok-push w ↦
          let is = ap (λ (v : Vec PathReport Global). v.items) w.reports-is ∙ w.in_ok-push.ensures.items in
          let report = w.in_ok-report_of.field-0 in
          record {
            paths = subst Paths (sym is) (paths_then all wins c.requires.paths at.i entry row low_all low c.index-all-i.is c.index-wins-i.is at.reports.items report w.in_ok-report_of.ensures.path (sym tested ∙ w.if-are_more.true) at.invariant.paths);
            each = subst Each (sym is) (report_more all wins c.requires.paths at.i entry row low_all low c.index-all-i.is c.index-wins-i.is c.args.scans.now (Holds c.args.reach.now) c.as_slice-nodes.result.now at.reports.items report own w.in_ok-report_of.ensures at.invariant.each);
          }
      | else-are_more w ↦
          let is = ap (λ (v : Vec PathReport Global). v.items) w.reports-is in
          record {
            paths = subst Paths (sym is) (paths_else all wins c.requires.paths at.i entry row low_all low c.index-all-i.is c.index-wins-i.is at.reports.items (sym tested ∙ w.if-are_more.false) at.invariant.paths);
            each = subst Each (sym is) at.invariant.each;
          }
    ]
