use Rattle.std.proofs.Common.{◌≡◌, ◌<◌, ℕ, List, Bor, Some, None, get_or, length, ◌-◌, option_map, refl, sym, ap, ◌∙◌, subst, arith, true≢false}
use Rattle.std.specs.declared.option.Option.{Option}
use Rattle.stage_scan.specs.declared.scan.Scan.{Scan}
use Rattle.winner_table.specs.Offers.{IsNodeOf}
use Rattle.list_laws.proofs.Alls.{all_at}
use Rattle.winner_table.proofs.Reading.{id_read, last_of, not_wanted, none_wanted}
use Rattle.winner_table.proofs.wins.pick.Goals as goal
use Rattle.winner_table.proofs.wins.pick.Goals.{in-Some+else-has_mod, in_default}

pub returns : goal.returns
returns c =
    let nodes = c.args.nodes.now in
    let scans = c.args.scans.now in
    let wanted = option_map (λ (b : Bor (List ℕ)). b.now) c.args.wanted in
    let k = get_or nodes (length nodes - 1) 0 in
    let scan = c.index-scans-last.result in
    let within = all_at (IsNodeOf scans) nodes (length nodes - 1) 0 (omega arith) c.requires.nodes in
    let at = id_read scans k scan within c.index-scans-last.is in (
      elim c.match-wanted.branch [
        | in-Some+else-has_mod w ↦ not_wanted scans nodes wanted w.in-Some.id.now (ap (option_map (λ (b : Bor (List ℕ)). b.now)) w.in-Some.is)
            (λ found. true≢false (sym (w.has_mod.ensures.1 found) ∙ w.if-has_mod.false))
        | in_default w ↦ none_wanted scans nodes wanted (ap (option_map (λ (b : Bor (List ℕ)). b.now)) w.in_default.is)
      ],
      last_of scans nodes _ (omega arith) (ap (λ (s : Scan). s.mod_id) (sym c.index-scans-last.is) ∙ sym at),
    )
