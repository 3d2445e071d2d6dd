use Rattle.std.proofs.Common.{ap, sym, ◌∙◌, arith}
use Rattle.std.specs.Str.{bytes_eq}
use Rattle.winner_table.specs.declared.provided.Provided.{Provided}
use Rattle.winner_table.proofs.Grouping.{same}
use Rattle.winner_table.proofs.Gathering.{with_more, other_at}
use Rattle.winner_table.proofs.providers.count_with.Goals as goal

pub loop-count-preserved : goal.loop-count-preserved
loop-count-preserved c =
    let x = c.index-items-count.result in
    record {
      within = omega arith;
      same = with_more c.args.path.now c.args.items.now c.loop-count.count x c.loop-count-test.true c.index-items-count.is
          (same x.path.now c.args.path.now (ap (λ (y : Provided). bytes_eq y.path.now c.args.path.now) c.index-items-count.is ∙ sym c.eq.ensures ∙ c.if-eq.true)) c.loop-count.invariant.same;
    }

pub returns-else-eq-clause-next : goal.returns-else-eq-clause-next
returns-else-eq-clause-next c =
    other_at c.args.path.now c.args.items.now c.loop-count.count c.index-items-count.result c.loop-count-test.true c.index-items-count.is (ap (λ (y : Provided). bytes_eq y.path.now c.args.path.now) c.index-items-count.is ∙ sym c.eq.ensures ∙ c.if-eq.false)
