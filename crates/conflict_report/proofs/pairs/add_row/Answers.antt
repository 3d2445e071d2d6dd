use Rattle.std.proofs.Common.{◌+◌, ℕ, Vec, Global, sym, ap, subst, ◌∙◌, arith, true≢false}
use Rattle.conflict_report.specs.Shares.{IsOpen}
use Rattle.conflict_report.proofs.Pairing.{HasRow, row_then, row_else, row_all}
use Rattle.conflict_report.proofs.pairs.add_row.Goals as goal
use Rattle.conflict_report.proofs.pairs.add_row.Goals.{then-is_open+in_ok-push, else-is_open}

pub loop-second-preserved : goal.loop-second-preserved
loop-second-preserved c =
    let old = c.args.pairs.now.items in
    let at = c.loop-second in
    let n = at.second in
    let Open = IsOpen c.args.shared.now c.args.reach.now in
    elim c.if-is_open.branch [
      | then-is_open+in_ok-push w ↦
          subst (HasRow old c.args.first (n + 1) Open) (sym (ap (λ (v : Vec (ℕ × ℕ) Global). v.items) w.pairs-is ∙ w.in_ok-push.ensures.items))
          (row_then old c.args.first n Open at.pairs.items at.invariant c.requires.before (c.is_open.ensures.0 w.if-is_open.true))
      | else-is_open w ↦
          subst (HasRow old c.args.first (n + 1) Open) (sym (ap (λ (v : Vec (ℕ × ℕ) Global). v.items) w.pairs-is))
          (row_else old c.args.first n Open at.pairs.items at.invariant (λ h. true≢false (sym (c.is_open.ensures.1 h) ∙ w.if-is_open.false)))
    ]

pub returns-clause-pairs : goal.returns-clause-pairs
returns-clause-pairs c =
    let Open = IsOpen c.args.shared.now c.args.reach.now in
    row_all c.args.pairs.now.items c.args.first c.loop-second.second Open c.loop-second.pairs.items c.loop-second.invariant
    (λ a b o. (let lt = o.shares.second_within in omega (arith, lt, c.loop-second-test.false)))
