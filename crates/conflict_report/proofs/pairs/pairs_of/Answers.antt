use Rattle.std.proofs.Common.{sym, subst, arith}
use Rattle.conflict_report.specs.Shares.{IsOpen}
use Rattle.conflict_report.proofs.Pairing.{HasRows, rows_none, rows_before, rows_more}
use Rattle.conflict_report.proofs.pairs.pairs_of.Goals as goal

pub loop-first-init : goal.loop-first-init
loop-first-init c =
    let Open = IsOpen c.args.shared.now c.args.reach.now in
    subst (HasRows 0 Open) (sym c.new-pairs.ensures.items) (rows_none Open)

pub add_row-requires-clause-before : goal.add_row-requires-clause-before
add_row-requires-clause-before c =
    rows_before c.loop-first.first (IsOpen c.args.shared.now c.args.reach.now) c.loop-first.pairs.items c.loop-first.invariant

pub loop-first-preserved : goal.loop-first-preserved
loop-first-preserved c =
    rows_more c.loop-first.first (IsOpen c.args.shared.now c.args.reach.now) c.loop-first.pairs.items c.add_row.new.pairs.items c.loop-first.invariant
    c.in_ok-add_row.ensures.ascending c.in_ok-add_row.ensures.pairs

pub returns-clause-pairs : goal.returns-clause-pairs
returns-clause-pairs c = λ a b. (
  λ at. ((c.loop-first.invariant.exact a b).0 at).1,
  λ o. (c.loop-first.invariant.exact a b).1 ((let lt = o.shares.first_within in omega (arith, lt, c.loop-first-test.false)), o),
)
