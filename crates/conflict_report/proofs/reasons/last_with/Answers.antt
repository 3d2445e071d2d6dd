use Rattle.std.proofs.Common.{◌≡◌, ◌≢◌, ◌-◌, ◌<◌, ◌≤◌, ℕ, length, get_or, drop, sym, ap, subst, ◌∙◌, arith, true≢false}
use Rattle.std.specs.List.{AllByRecursion}
use Rattle.std.specs.Str.{bytes_eq}
use Rattle.stage_scan.specs.declared.scan.Scan.{Scan}
use Rattle.list_laws.proofs.Alls.{all_at}
use Rattle.winner_table.specs.Winners.{id_at}
use Rattle.winner_table.specs.Offers.{IsNodeOf}
use Rattle.winner_table.proofs.Grouping.{same, equal}
use Rattle.winner_table.proofs.Reading.{id_read}
use Rattle.conflict_report.proofs.Reporting.{last_found, later_more, none_with}
use Rattle.conflict_report.proofs.reasons.last_with.Goals as goal

pub returns-then-eq : goal.returns-then-eq
returns-then-eq c =
    let nodes = c.args.nodes.now in
    let scans = c.args.scans.now in
    let i = c.loop-i.i in
    let low : i < length nodes = c.loop-i-test.true in
    let k = length nodes - 1 - i in
    let scan = c.index-scans-node.result in
    let at = id_read scans (get_or nodes k 0) scan (all_at (IsNodeOf scans) nodes k 0 (omega (arith, low)) c.requires.nodes) c.index-scans-node.is in
    let e = same scan.mod_id c.args.id.now (ap (λ (s : Scan). bytes_eq s.mod_id c.args.id.now) c.index-scans-node.is ∙ sym c.eq.ensures ∙ c.if-eq.true) in
    last_found scans nodes c.args.id.now i low (at ∙ e) c.loop-i.invariant

pub loop-i-preserved : goal.loop-i-preserved
loop-i-preserved c =
    let nodes = c.args.nodes.now in
    let scans = c.args.scans.now in
    let i = c.loop-i.i in
    let low : i < length nodes = c.loop-i-test.true in
    let k = length nodes - 1 - i in
    let scan = c.index-scans-node.result in
    let at = id_read scans (get_or nodes k 0) scan (all_at (IsNodeOf scans) nodes k 0 (omega (arith, low)) c.requires.nodes) c.index-scans-node.is in
    later_more scans nodes c.args.id.now i low
    (λ e. true≢false (sym (equal scan.mod_id c.args.id.now (sym at ∙ e)) ∙ ap (λ (s : Scan). bytes_eq s.mod_id c.args.id.now) c.index-scans-node.is ∙ sym c.eq.ensures ∙ c.if-eq.false))
    c.loop-i.invariant

pub unreachable-requires : goal.unreachable-requires
unreachable-requires c =
    let nodes = c.args.nodes.now in
    let scans = c.args.scans.now in
    let all = ap (λ n. drop n nodes) (sub_all (length nodes) c.loop-i.i c.loop-i-test.false) in
    none_with scans nodes c.args.id.now (subst (AllByRecursion (λ (node : ℕ). id_at scans node ≢ c.args.id.now)) all c.loop-i.invariant) c.requires.some
  where
    sub_all : (n i : ℕ) → n ≤ i → n - i ≡ 0
    sub_all n i le = omega (arith, le)
