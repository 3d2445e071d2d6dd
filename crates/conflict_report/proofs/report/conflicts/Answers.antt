use Rattle.std.proofs.Common.{◌↔◌, ℕ, List, map, filter, length, sym, ap, subst, ◌∙◌, arith}
use Rattle.std.specs.List.{AllByRecursion, Contains}
use Rattle.winner_table.specs.declared.providers.Providers.{Providers}
use Rattle.winner_table.specs.Winners.{files_at}
use Rattle.winner_table.specs.Providers.{path_of}
use Rattle.conflict_report.specs.Relations.{Holds}
use Rattle.conflict_report.specs.Entries.{has_more, HasReport}
use Rattle.conflict_report.specs.Shares.{SharesOneOf, AreNodesBelow}
use Rattle.conflict_report.proofs.Reporting.{each_once, same_paths, matched, nodes_below, contested, reports_are, undecided, has_scan}
use Rattle.conflict_report.proofs.report.conflicts.Goals as goal

pub all_providers-requires : goal.all_providers-requires
all_providers-requires c = each_once c.args.graph.now c.args.order.now (length c.args.scans.now) c.requires.count c.requires.lawful

pub reports_of-requires-clause-paths : goal.reports_of-requires-clause-paths
reports_of-requires-clause-paths c =
    ap (map path_of) c.as_slice.ensures.value ∙ same_paths c.args.scans.now c.args.order.now c.in_ok-all.all.items c.args.wins.now c.in_ok-all.ensures c.requires.wins

pub reports_of-requires-clause-matches : goal.reports_of-requires-clause-matches
reports_of-requires-clause-matches c = λ entry row e r at.
    let once = each_once c.args.graph.now c.args.order.now (length c.args.scans.now) c.requires.count c.requires.lawful in
    matched c.args.scans.now c.args.order.now c.in_ok-all.all.items c.args.wins.now c.in_ok-all.ensures c.requires.wins once entry row (subst (λ (l : List Providers). Contains l entry) c.as_slice.ensures.value e) r at

pub shared_of-requires : goal.shared_of-requires
shared_of-requires c =
    let once = each_once c.args.graph.now c.args.order.now (length c.args.scans.now) c.requires.count c.requires.lawful in
    let count = ap (λ g. g.count) c.graph.view_is ∙ c.requires.count in
    subst (AllByRecursion (AreNodesBelow c.graph.inside.count)) (sym c.as_slice-2.ensures.value)
    (nodes_below c.args.scans.now c.args.order.now c.in_ok-all.all.items c.args.wins.now c.in_ok-all.ensures c.requires.wins once c.graph.inside.count count)

pub returns-clause-paths : goal.returns-clause-paths
returns-clause-paths c =
    c.in_ok-paths.ensures.paths ∙ ap (λ (l : List Providers). map path_of (filter has_more l)) c.as_slice.ensures.value
    ∙ contested c.args.scans.now c.args.order.now c.in_ok-all.all.items c.args.wins.now c.in_ok-all.ensures c.requires.wins

pub returns-clause-each : goal.returns-clause-each
returns-clause-each c =
    let reach = c.in_ok-reach.reach in
    let reports = c.in_ok-paths.paths.items in
    reports_are c.args.scans.now c.args.order.now c.in_ok-all.all.items c.args.wins.now c.in_ok-all.ensures c.requires.wins c.args.graph.now reach c.in_ok-reach.ensures reports
    (subst (λ (l : List Providers). AllByRecursion (HasReport c.args.scans.now (Holds reach) l c.args.wins.now) reports) c.as_slice.ensures.value c.in_ok-paths.ensures.each)

pub returns-clause-pairs : goal.returns-clause-pairs
returns-clause-pairs c = λ a b.
    let scans = c.args.scans.now in
    let all = c.in_ok-all.all.items in
    let shared = c.in_ok-shared.shared in
    let shares = subst (λ (l : List Providers). (a b : ℕ) → Holds shared a b ↔ SharesOneOf l a b) c.as_slice-2.ensures.value c.in_ok-shared.ensures.shares in
    let placed = λ (k : ℕ) (path : List ℕ) (file : Contains (files_at scans k) path). c.requires.lawful.every k (let low = has_scan scans k path file in omega (arith, low, c.requires.count)) in
    let open' = undecided scans c.args.order.now all c.args.wins.now c.in_ok-all.ensures c.requires.wins c.args.graph.now c.in_ok-reach.reach c.in_ok-reach.ensures placed shared shares a b in
    let listed = c.in_ok-pairs.ensures.pairs a b in
    (λ at. open'.0 (listed.0 at), λ u. listed.1 (open'.1 u))
