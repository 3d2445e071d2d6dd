use Rattle.std.proofs.Common.{◌≡◌, ◌<◌, ℕ, true, get_or, length, take, take_all, refl, sym, ap, ◌∙◌, subst, arith, true≢false}
use Rattle.std.specs.List.{AllByRecursion}
use Rattle.std.specs.Str.{bytes_eq}
use Rattle.stage_scan.specs.declared.scan.Scan.{Scan}
use Rattle.std.proofs.lemmas.List.{take_more}
use Rattle.winner_table.specs.Winners.{id_at}
use Rattle.winner_table.specs.Offers.{IsNodeOf}
use Rattle.list_laws.proofs.Alls.{all_at, all_more}
use Rattle.winner_table.proofs.Grouping.{same, equal}
use Rattle.winner_table.proofs.Reading.{id_read, wanted_node, no_node}
use Rattle.winner_table.proofs.wins.has_mod.Goals as goal

pub returns-then-eq : goal.returns-then-eq
returns-then-eq c =
    let nodes = c.args.nodes.now in
    let scans = c.args.scans.now in
    let i = c.loop-node.node-index in
    let low = c.loop-node-test.true in
    let k = get_or nodes i 0 in
    let scan = c.index-scans-node.result in
    let at = id_read scans k scan (all_at (IsNodeOf scans) nodes i 0 low c.requires) c.index-scans-node.is in
    let e = same scan.mod_id c.args.id.now (ap (λ (s : Scan). bytes_eq s.mod_id c.args.id.now) c.index-scans-node.is ∙ sym c.eq.ensures ∙ c.if-eq.true) in
    (λ _. wanted_node scans nodes c.args.id.now i low (at ∙ e), λ _. refl)

pub loop-node-preserved : goal.loop-node-preserved
loop-node-preserved c =
    let nodes = c.args.nodes.now in
    let scans = c.args.scans.now in
    let i = c.loop-node.node-index in
    let low = c.loop-node-test.true in
    let k = get_or nodes i 0 in
    let scan = c.index-scans-node.result in
    let at = id_read scans k scan (all_at (IsNodeOf scans) nodes i 0 low c.requires) c.index-scans-node.is in
    let P = λ (node : ℕ). id_at scans node ≡ c.args.id.now → ⊥ in
    subst (AllByRecursion P) (sym (take_more nodes i 0 low))
    (all_more P (take i nodes) k c.loop-node.invariant (λ e. true≢false (sym (equal scan.mod_id c.args.id.now (sym at ∙ e)) ∙ ap (λ (s : Scan). bytes_eq s.mod_id c.args.id.now) c.index-scans-node.is ∙ sym c.eq.ensures ∙ c.if-eq.false)))

pub returns : goal.returns
returns c =
    let nodes = c.args.nodes.now in
    let scans = c.args.scans.now in
    let P = λ (node : ℕ). id_at scans node ≡ c.args.id.now → ⊥ in
    let none = subst (AllByRecursion P) (take_all c.loop-node.node-index nodes (omega arith)) c.loop-node.invariant in
    (λ t. absurd (true≢false (sym t)), λ found. absurd (no_node scans nodes c.args.id.now none found))
