use Rattle.std.proofs.Common.{◌↔◌, List, ℕ, subst, take_all, ◌∙◌}
use Rattle.winner_table.specs.declared.providers.Providers.{Providers}
use Rattle.conflict_report.specs.Relations.{Holds, GrowsBy}
use Rattle.conflict_report.specs.Shares.{PairsAmong, SharesOneOf}
use Rattle.conflict_report.proofs.Pairing.{shares_more}
use Rattle.conflict_report.proofs.pairs.shared_of.Goals as goal

pub loop-entry-preserved : goal.loop-entry-preserved
loop-entry-preserved c =
    let at = c.loop-entry in
    let new = c.mark_all.new.shared in
    let entry = c.entry-item.result in
    let grew : GrowsBy at.shared new (PairsAmong entry.nodes.items entry.nodes.items) = subst (λ (l : List ℕ). GrowsBy at.shared new (PairsAmong l l)) c.as_slice.ensures.value c.mark_all.ensures in
    record {
      count = grew.count ∙ at.invariant.count;
      shares = shares_more at.shared new c.args.all.now at.entry-index entry c.loop-entry-test.true c.entry-item.is at.invariant.shares grew;
    }

pub returns-clause-shares : goal.returns-clause-shares
returns-clause-shares c = λ a b.
    subst (λ (l : List Providers). Holds c.loop-entry.shared a b ↔ SharesOneOf l a b) (take_all c.loop-entry.entry-index c.args.all.now c.loop-entry-test.false) (c.loop-entry.invariant.shares a b)
